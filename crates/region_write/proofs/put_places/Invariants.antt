-- `put_places` meets its contract: the loop has put the places of the rows so far. Assumes nothing.
use mathlib.Core.Path.{◌≡◌}
use lib.ListN.{length}
use Rattle.words.specs.Rows.{Filled}
use Rattle.region_write.specs.Signed.{place_in}
use Rattle.region_write.specs.Files.{place_bytes}
use Rattle.region_write.proofs.put_places.Given as goal

abbrev pub invariant-loop-row : goal.invariant-loop-row
invariant-loop-row l = (length l.out ≡ length l.initial.out) × Filled 16 (λ k. place_bytes (place_in l.rows k)) l.row l.initial.out l.out
