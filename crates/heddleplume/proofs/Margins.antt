-- Every place that is given out has a margin, which is above -(2^-41 + 2^-51). Assumes nothing.
use mathlib.Core.Path.{◌≡◌}
use mathlib.Core.List.{List}
use Prim.Native.Nat.{ℕ, ◌+◌, ◌^◌, ◌<◌}
use lib.Ieee.{Float}
use Rattle.reply.specs.Replies.{fine}
use Rattle.vec3d.specs.declared.Vec3d.{Vec3d}
use Rattle.locate.specs.Locating.{near_point, spot_of, locate_verdict}
use Rattle.locate.proofs.PassedOn.{answered_rounds}
use Rattle.margin.specs.Margins.{reach_of, margin_verdict}
use Rattle.margin.proofs.Points.{margin_low, never_five, left_held}

-- The leftovers of a place are never refused a margin, and it is not below the border by more than the rounded tests allow.
pub place_margin : (s : List Float) (l : ℕ) (p : Vec3d) → locate_verdict s l p ≡ fine → let r = (spot_of s l p).left in (margin_verdict r ≡ fine) × (reach_of r < 2 ^ 51 + 2 ^ 11 + 2)
place_margin s l p e =
    let f = answered_rounds s l p e in
    let clear = never_five (near_point s l p) f in
    (clear, margin_low (spot_of s l p).left (left_held (near_point s l p) f) clear)
