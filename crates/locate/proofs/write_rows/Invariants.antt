-- `write_rows` meets its contract: the loop has filled the rows of the first k vectors. Assumes nothing.
use mathlib.Core.Path.{◌≡◌}
use Prim.Native.Nat.{◌≤◌}
use lib.ListN.{length}
use Rattle.words.specs.Rows.{count_to, Filled}
use Rattle.locate.specs.Batch.{Ahead, row_at, refused_at}
use Rattle.locate.proofs.write_rows.Given as goal

abbrev pub invariant-loop-k : goal.invariant-loop-k
invariant-loop-k l =
    (l.refused ≤ l.k) × (length l.out ≡ length l.initial.out) × (l.refused ≡ count_to (refused_at l.frame l.level.0 l.input) l.k) × Filled 4 (row_at l.frame l.level.0 l.input) l.k l.initial.out l.out
    × Ahead l.frame l.input l.k l.ahead
