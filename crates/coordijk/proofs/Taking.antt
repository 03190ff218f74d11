-- Which triples are taken: what the test leaves known. Assumes nothing.
use mathlib.Core.Path.{◌≡◌}
use mathlib.Core.Bool.{false}
use native.Mathlib.Omega.{arith}
use lib.Dec.{ltb}
use borrow.Author.Tests.{ltb-false, le-ltb}
use Rattle.reply.specs.Replies.{fine}
use Rattle.reply.specs.declared.Refusal.TheVariants.{NotReduced}
use Rattle.reply.proofs.Entries.{neither, passed as reasons_passed}
use Rattle.coordijk.specs.declared.CoordIJK.{CoordIJK}
use Rattle.coordijk.specs.Coordinates.{least_of, largest_of, not_reduced, verdict_of, Taken}

-- a triple that the test lets pass is taken, and a taken one passes
pub passed : (c : CoordIJK) → not_reduced c ≡ false → Taken c
passed c e =
    let n = neither (ltb 0 (least_of c)) (ltb 67108864 (largest_of c)) e in
    let l = ltb-false 0 (least_of c) n.0 in
    record { flat = omega arith; low = ltb-false 67108864 (largest_of c) n.1 }

pub passes : (c : CoordIJK) → Taken c → not_reduced c ≡ false
passes c t = simp (le-ltb 0 (least_of c) (omega arith), le-ltb 67108864 (largest_of c) t.low)

-- where the verdict is fine, the triple is taken
pub fine_taken : (c : CoordIJK) → verdict_of c ≡ fine → Taken c
fine_taken c e = passed c (reasons_passed _ NotReduced _ e).0

pub taken_fine : (c : CoordIJK) → Taken c → verdict_of c ≡ fine
taken_fine c t = simp (passes c t)
