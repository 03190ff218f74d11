-- `fill` meets its contract: what is left to fill, after the fields that stand, fills the same. Assumes nothing.
use mathlib.Core.Path.{◌≡◌}
use Prim.Native.Nat.{◌+◌, ◌≤◌}
use lib.ListN.{length, drop}
use Rattle.ask_read.specs.Questions.{question, blank, filled, words_from}
use Rattle.ask_read.proofs.fill.Given as goal

abbrev pub invariant-loop-k : goal.invariant-loop-k
invariant-loop-k l =
    (l.at ≤ length l.line + 1) × (length l.numbers ≡ 9) × (length l.doubles ≡ 9) × (filled l.k (drop l.k l.kinds) (words_from l.line l.at) (question l.asked l.numbers l.doubles) ≡ filled 0 l.kinds (words_from l.line l.from) (blank l.asked))
