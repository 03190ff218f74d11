-- How the tests on the way lead to the entry's answer. Assumes nothing.
use mathlib.Core.Path.{◌≡◌, refl, ap}
use mathlib.Core.Bool.{Bool, true, false}
use mathlib.Core.List.{List, ◌∷◌}
use Prim.Native.Nat.{ℕ, ◌<◌}
use native.Mathlib.Omega.{arith}
use lib.Ieee.{Float}
use Rattle.std.specs.Prelude.{Ok, Err}
use Rattle.reply.specs.Choice.{pick}
use Rattle.reply.specs.declared.Refusal.{Refusal}
use Rattle.reply.specs.declared.Refusal.TheVariants.{Behind}
use Rattle.reply.specs.Replies.{first, answer, refusal, reply}
use Rattle.reply.proofs.Entries.{answers, refuses, answered, refused}
use Rattle.vec2d.specs.declared.Vec2d.{Vec2d}
use Rattle.vec2d.specs.declared.Found.{Found}
use Rattle.vec2d.specs.Points.{is_point}
use Rattle.vec2d.specs.Rounding.{round_verdict, round_reply, nearest_of, leftovers_of, found_of, found_values}
use Rattle.vec3d.specs.declared.Vec3d.{Vec3d}
use Rattle.vec3d.specs.declared.FaceAxes.{FaceAxes}
use Rattle.vec3d.proofs.Passing.{passed_both}
use Rattle.vec3d.proofs.Choosing.{nearest_in}
use Rattle.face_projection.specs.Projection.{behind, point_of, projected_of}
use Rattle.face_projection.proofs.Finite.{point_finite}
use Rattle.faceijk.specs.Places.{place}
use Rattle.locate.specs.Locating.{Entered, near_face, near_axes, near_point, spot, spot_of, spot_values, front_reasons}

-- a hexagon and leftovers that rounding answers are the place's, and what rounding refuses is refused
pub round_answers : (f : ℕ) (c : Found) (q : Vec2d) → answer (found_values c) ≡ round_reply q
    → answer (spot_values (spot (place f c.hexagon) c.left)) ≡ reply 6 (round_verdict q) (spot_values (spot (place f (nearest_of q)) (leftovers_of q)))
round_answers f c q e =
    let t = answered 5 (round_verdict q) (found_values c) (found_values (found_of q)) e in
    answers 6 (round_verdict q) _ _ t.0 (ap (λ (vs : List ℕ). answer (f ∷ vs)) t.1)

pub round_refuses : (f : ℕ) (r : Refusal) (q : Vec2d) → refusal 5 r ≡ round_reply q
    → refusal 6 r ≡ reply 6 (round_verdict q) (spot_values (spot (place f (nearest_of q)) (leftovers_of q)))
round_refuses f r q e = refuses 6 (round_verdict q) _ r (refused 5 (round_verdict q) r (found_values (found_of q)) e)

-- what the projection gives says whether the vector is behind the face
module _ (a : FaceAxes) (l : ℕ) (p : Vec3d) where
  pub in_front : (q : Vec2d) → projected_of a l p ≡ Ok q → (behind a p ≡ false) × (q ≡ point_of a l p)
  unfolding projected_of
  in_front q e = go (behind a p) e
    where
      go : (b : Bool) → pick b (Err Behind) (Ok (point_of a l p)) ≡ Ok q → (b ≡ false) × (q ≡ point_of a l p)
      go true e = let z : ◌≡◌ {A = ℕ} 0 1 = cc in absurd (omega arith)
      go false e = (refl, cc)

  pub is_behind : (r : Refusal) → projected_of a l p ≡ Err r → (behind a p ≡ true) × (r ≡ Behind)
  unfolding projected_of
  is_behind r e = go (behind a p) e
    where
      go : (b : Bool) → pick b (Err Behind) (Ok (point_of a l p)) ≡ Err r → (b ≡ true) × (r ≡ Behind)
      go true e = (refl, cc)
      go false e = let z : ◌≡◌ {A = ℕ} 0 1 = cc in absurd (omega arith)

module _ (s : List Float) (l : ℕ) (p : Vec3d) (entered : Entered s l p) where
  pub near_low : near_face s p < 20
  near_low = omega (arith, nearest_in s p 19)

  -- The plane point on the nearest face is finite, so rounding never refuses it with 6.
  pub near_finite : behind (near_axes s p) p ≡ false → is_point (near_point s l p) ≡ true
  near_finite front =
      let v = passed_both p entered.vector in
      point_finite s (near_face s p) l p entered.frame near_low entered.level v.0 v.1 front

  pub front_verdict : behind (near_axes s p) p ≡ false → round_verdict (near_point s l p) ≡ first (front_reasons s l p)
  front_verdict front = rw (front, near_finite front)

  pub front_refuses : (r : Refusal) → (behind (near_axes s p) p ≡ true) × (r ≡ Behind) → refusal 6 r ≡ reply 6 (first (front_reasons s l p)) (spot_values (spot_of s l p))
  front_refuses r h = rw (h.0, h.1)
