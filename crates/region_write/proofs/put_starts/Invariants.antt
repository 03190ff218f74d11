-- `put_starts` meets its contract: the loop has put the starts of the faces so far. Assumes nothing.
use mathlib.Core.Path.{◌≡◌}
use lib.ListN.{length}
use Rattle.words.specs.Rows.{Filled}
use Rattle.region_write.specs.Signed.{place_in}
use Rattle.region_write.specs.Files.{start_bytes}
use Rattle.region_write.proofs.put_starts.Given as goal

abbrev pub invariant-loop-face : goal.invariant-loop-face
invariant-loop-face l = (length l.out ≡ length l.initial.out) × Filled 4 (start_bytes (place_in l.rows) l.count) l.face l.initial.out l.out
