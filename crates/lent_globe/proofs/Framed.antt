-- A boundary on the sphere tells a bad frame before anything else. Assumes nothing.
use mathlib.Core.Path.{◌≡◌, refl}
use mathlib.Core.Bool.{Bool, true, false}
use mathlib.Core.List.{List}
use Prim.Native.Nat.{ℕ}
use lib.Ieee.{Float}
use Rattle.std.specs.Prelude.{Err}
use Rattle.reply.specs.Choice.{pick}
use Rattle.reply.specs.declared.Refusal.TheVariants.{BadFrame}
use Rattle.reply.specs.Replies.{first, reply, Verdict}
use Rattle.faceijk.specs.declared.Place.{Place}
use Rattle.vec3d.specs.Frame.{bad_frame}
use Rattle.boundary.specs.Boundaries.{or_else, boundary_reasons}
use Rattle.globe.specs.Boundaries.{globe_verdict, globe_points, globe_values, globe_reply}
use Rattle.lent.specs.Lent.{framed_number}

first_of_lem : (bad : Bool) (v w : Verdict) (vs : List ℕ) → framed_number bad false (reply 61 (or_else (pick bad (Err BadFrame) v) w) vs) ≡ (reply 61 (or_else (pick bad (Err BadFrame) v) w) vs).number
first_of_lem true v w vs = refl
first_of_lem false v w vs = refl

pub frame_first : (sides : ℕ) (s : List Float) (p : Place) (l start n : ℕ) → framed_number (bad_frame s) false (globe_reply sides s p l start n) ≡ (globe_reply sides s p l start n).number
unfolding globe_verdict
frame_first sides s p l start n = first_of_lem (bad_frame s) (first (boundary_reasons sides p l start n)) _ (globe_values (globe_points sides s p l start n))
