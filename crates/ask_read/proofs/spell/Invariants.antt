-- `spell` meets its contract: what is left to spell, after the digits read, spells the same. Assumes nothing.
use mathlib.Core.Path.{◌≡◌}
use Prim.Native.Nat.{◌^◌}
use lib.ListN.{drop}
use Rattle.ask_read.specs.Words.{spelt}
use Rattle.ask_read.proofs.Spelling.{Room}
use Rattle.ask_read.proofs.spell.Given as goal

abbrev pub invariant-loop-b : goal.invariant-loop-b
invariant-loop-b l = Room l.base l.value (drop l.b-index l.s) (2 ^ 64) × (spelt l.base l.value (drop l.b-index l.s) ≡ spelt l.base l.before l.s)
