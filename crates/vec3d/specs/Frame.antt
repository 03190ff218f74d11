-- The frame of document 01: 180 doubles, nine per face, and which frames are taken.
use Rattle.std.specs.Prelude.{Bool, false, not, ◌||◌, List, ℕ, zero, suc, ◌+◌, ◌*◌, eqb, length, get_or, Float}
use Rattle.std.specs.Float.{nan}
use Rattle.double.specs.Double.{finite}
use Rattle.vec3d.specs.declared.Vec3d.{Vec3d}
use Rattle.vec3d.specs.declared.FaceAxes.{FaceAxes}
use Rattle.vec3d.specs.Vectors.{wide, off_sphere}

-- the vector whose three numbers begin at a place of a list
unfoldable pub vec_at : List Float → ℕ → Vec3d
vec_at s at = record { x = get_or s at nan; y = get_or s (at + 1) nan; z = get_or s (at + 2) nan }

-- nine numbers per face: centre, u, v
abbrev pub face_at : List Float → ℕ → FaceAxes
face_at s f = record { centre = vec_at s (9 * f); u = vec_at s (9 * f + 3); v = vec_at s (9 * f + 6) }

-- the test finds one of the numbers below n
unfoldable pub some_below : (ℕ → Bool) → ℕ → Bool
some_below test zero = false
some_below test (suc n) = some_below test n || test n

-- a non-finite number
unfoldable pub non_finite : List Float → Bool
non_finite s = some_below (λ (k : ℕ). not (finite (get_or s k nan))) (length s)

-- a part of u or v above 3 in size; a centre that fails the test of 7
unfoldable pub bad_axes : List Float → ℕ → Bool
bad_axes s f = wide (face_at s f).u || wide (face_at s f).v || off_sphere (face_at s f).centre

-- BadFrame: length not 180; a non-finite number; a face that will not do
unfoldable pub bad_frame : List Float → Bool
bad_frame s = not (eqb (length s) 180) || (non_finite s || some_below (bad_axes s) 20)
