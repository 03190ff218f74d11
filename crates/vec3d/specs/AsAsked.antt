-- How the code asks: definitions in its own shape, for the promises of inner functions. No entry's promise cites one, and a law ties each to the paper's
-- definition: `OnePass.by_faces` the test of a face, `Doubt.no_doubt` the look before it, `Choosing.by_pairs` and `nearest_held` the search.
use Rattle.reply.specs.Replies.{fine}
use Rattle.std.specs.Prelude.{◌≡◌, Bool, false, not, ◌&&◌, ◌||◌, List, ℕ, suc, ◌<◌, get_or, Float}
use Rattle.std.specs.Float.{nan, binary64}
use Rattle.std.specs.Float.Ieee.{of_bits, sub, le, lt}
use Rattle.double.specs.Double.{one, three}
use Rattle.vec3d.specs.declared.Vec3d.{Vec3d}
use Rattle.vec3d.specs.declared.Nearest.{Nearest}
use Rattle.vec3d.specs.Vectors.{dot_of, off_sphere, vector_verdict}
use Rattle.vec3d.specs.Frame.{face_at, bad_frame}
use Rattle.vec3d.specs.Nearest.{distance_of, closer_of, nearest_to}

-- ---- a face, part by part

-- from -3 to 3: at most 3 in size and no NaN
abbrev pub minus_three : Float
minus_three = of_bits binary64 0xc008_0000_0000_0000

unfoldable pub narrow : Float → Bool
narrow x = le x three && le minus_three x

-- a part above 3 in size, or no finite number
unfoldable pub loose : Vec3d → Bool
loose v = not (narrow v.x && narrow v.y && narrow v.z)

-- a face that will not do or has a non-finite number
unfoldable pub unfit : List Float → ℕ → Bool
unfit s f = loose (face_at s f).u || loose (face_at s f).v || off_sphere (face_at s f).centre

-- ---- a face by three sums of squares

-- 3 · 3: squares that sum to less are those of parts below 3
abbrev pub nine : Float
nine = of_bits binary64 0x4022_0000_0000_0000

-- 2^-41, half of what OffSphere allows: a square that is so near to 1 is beyond doubt
abbrev pub certain : Float
certain = of_bits binary64 0x3d60_0000_0000_0000

abbrev pub minus_certain : Float
minus_certain = of_bits binary64 0xbd60_0000_0000_0000

unfoldable pub near_one : Float → Bool
near_one q = le minus_certain (sub binary64 q one) && le (sub binary64 q one) certain

-- a face that is not fit beyond doubt
unfoldable pub doubtful : List Float → ℕ → Bool
doubtful s f =
    let a = face_at s f in
    not (lt (dot_of a.u a.u) nine && lt (dot_of a.v a.v) nine && near_one (dot_of a.centre a.centre))

-- ---- the search

-- the nearer one of a face and the next
unfoldable pub pair_of : (ℕ → Float) → ℕ → Nearest
pair_of d f = closer_of (record { face = f; distance = d f }) (suc f) (d (suc f))

-- twenty squared distances in an array
abbrev pub distance_at : List Float → ℕ → Float
distance_at far f = get_or far f nan

pub record Distances (s : List Float) (p : Vec3d) (far : List Float) : Type 0 where
  pub each : (f : ℕ) → f < 20 → distance_at far f ≡ distance_of s p f

-- what is known of a face before the frame and the vector are tested: it is the nearest if both pass
abbrev pub NearestIf : List Float → Vec3d → Nearest → Type 0
NearestIf s p n = bad_frame s ≡ false → vector_verdict p ≡ fine → n ≡ nearest_to s p 19
