-- How large the parts of a vector and of a face's axes are, by whole numbers.
use Rattle.std.specs.Prelude.{ℕ}
use Rattle.double.specs.Sizes.{Under}
use Rattle.vec3d.specs.declared.Vec3d.{Vec3d}
use Rattle.vec3d.specs.declared.FaceAxes.{FaceAxes}

-- each part is finite and at most n in size
pub record PartsUnder (n : ℕ) (v : Vec3d) : Type 0 where
  pub x : Under n v.x
  pub y : Under n v.y
  pub z : Under n v.z

-- what a face of a frame that has passed holds
pub record AxesUnder (a : FaceAxes) : Type 0 where
  pub centre : PartsUnder 2 a.centre
  pub u : PartsUnder 3 a.u
  pub v : PartsUnder 3 a.v
