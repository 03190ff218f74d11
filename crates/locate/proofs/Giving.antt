-- A place that is given out is refused by no entry with 3 or 10. Assumes nothing.
use mathlib.Core.Path.{◌≡◌, sym, ap, subst, ◌∙◌}
use mathlib.Core.Bool.{false}
use mathlib.Core.List.{List}
use Prim.Native.Nat.{ℕ}
use native.Mathlib.Nat.{le_of_suc-le-suc}
use borrow.Author.Tests.{le-ltb}
use lib.Ieee.{Float}
use lib.ListN.{take}
use Rattle.locate.specs.declared.Spot.{Spot}
use Rattle.reply.specs.declared.Refusal.{Refusal}
use Rattle.reply.specs.Replies.{fine}
use Rattle.std.specs.Prelude.{Ok, Err, Result}
use Rattle.reply.specs.declared.Refusal.TheVariants.{BadNumber, OffSphere, Behind}
use Rattle.reply.proofs.Entries.{answered, passed}
use Rattle.coordijk.specs.Coordinates.{not_reduced}
use Rattle.coordijk.proofs.Taking.{passes}
use Rattle.vec2d.specs.Rounding.{round_verdict}
use Rattle.vec2d.proofs.Taken.{rounded_taken}
use Rattle.vec3d.specs.declared.Vec3d.{Vec3d}
use Rattle.vec3d.specs.Vectors.{bad_number, off_sphere}
use Rattle.face_projection.specs.Projection.{behind}
use Rattle.faceijk.proofs.Unique.{same_place_lem}
use Rattle.faceijk.specs.Places.{bad_face, coord_of, Okay}
use Rattle.locate.specs.Locating.{Passed, Entered, near_axes, near_point, place_of, spot_of, spot_values, row_verdict, row_reply, said_located}
use Rattle.locate.specs.Batch.{Given}
use Rattle.locate.proofs.Entering.{near_low, front_verdict}

module _ (s : List Float) (l : ℕ) (p : Vec3d) (ready : Passed s l) where
  -- Where no test refuses, the vector has passed, and rounding accepts its plane point.
  enters : row_verdict s l p ≡ fine → Entered s l p
  enters e =
      let n = passed (bad_number p) BadNumber _ e in
      let o = passed (off_sphere p) OffSphere _ n.1 in
      record { frame = ready.frame; level = ready.level; vector = simp (n.0, o.0) }

  pub rounds : row_verdict s l p ≡ fine → round_verdict (near_point s l p) ≡ fine
  rounds e =
      let n = passed (bad_number p) BadNumber _ e in
      let o = passed (off_sphere p) OffSphere _ n.1 in
      let b = passed (behind (near_axes s p) p) Behind _ o.1 in
      front_verdict s l p (enters e) b.0 ∙ o.1

  -- So the place has a face below 20, is reduced, and has no coordinate above 2^26.
  pub placed_okay : row_verdict s l p ≡ fine → Okay (place_of s l p)
  unfolding place_of
  placed_okay e = record { on = near_low s l p (enters e); taken = rounded_taken (near_point s l p) (rounds e) }

  -- So every place that is given out has these properties.
  pub given_okay : (r : Result Spot Refusal) → said_located r ≡ row_reply s l p → Given r
  given_okay (Ok t) e =
      let a = answered 6 (row_verdict s l p) (spot_values t) (spot_values (spot_of s l p)) e in
      subst Okay (sym (same_place_lem t.place (place_of s l p) (ap (take 4) a.1))) (placed_okay a.0)
  given_okay (Err r) e = tt

  -- In the words of the entries that take a place: neither BadFace nor NotReduced applies. Other reasons may: at an odd level a place near an edge may
  -- lie out of its face, and its boundary gets 11.
  pub never_three_or_ten : row_verdict s l p ≡ fine → (bad_face (place_of s l p).face ≡ false) × (not_reduced (coord_of (place_of s l p)) ≡ false)
  never_three_or_ten e =
      let o = placed_okay e in
      (le-ltb 19 (place_of s l p).face (le_of_suc-le-suc o.on), passes (coord_of (place_of s l p)) o.taken)
