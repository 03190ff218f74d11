-- Unit vectors of document 01: the dot product, and which vectors are taken.
use Rattle.std.specs.Prelude.{Bool, not, ◌&&◌, ◌||◌, List, [], ◌∷◌, Float}
use Rattle.std.specs.Float.{binary64}
use Rattle.std.specs.Float.Ieee.{sub, mul, le, lt}
use Rattle.reply.specs.declared.Refusal.TheVariants.{BadNumber, OffSphere}
use Rattle.reply.specs.Replies.{Reason, when, first, Verdict}
use Rattle.double.specs.Double.{finite, size_of, mul_add_of, three, sphere_low, sphere_high}
use Rattle.vec3d.specs.declared.Vec3d.{Vec3d}

-- a dot product is ax·bx + (ay·by + az·bz), each operation rounded
unfoldable pub dot_of : Vec3d → Vec3d → Float
dot_of a b = mul_add_of a.x b.x (mul_add_of a.y b.y (mul binary64 a.z b.z))

unfoldable pub minus_of : Vec3d → Vec3d → Vec3d
minus_of a b = record { x = sub binary64 a.x b.x; y = sub binary64 a.y b.y; z = sub binary64 a.z b.z }

-- BadNumber: a NaN or infinity in the vector
unfoldable pub bad_number : Vec3d → Bool
bad_number v = not (finite v.x) || not (finite v.y) || not (finite v.z)

-- OffSphere: dot product with itself not in 1 - 2^-40 .. 1 + 2^-40, ends allowed
unfoldable pub off_sphere : Vec3d → Bool
off_sphere v = not (le sphere_low (dot_of v v) && le (dot_of v v) sphere_high)

-- a part above 3 in size
unfoldable pub wide : Vec3d → Bool
wide v = lt three (size_of v.x) || lt three (size_of v.y) || lt three (size_of v.z)

abbrev pub vector_reasons : Vec3d → List Reason
vector_reasons v = when (bad_number v) BadNumber ∷ when (off_sphere v) OffSphere ∷ []

abbrev pub vector_verdict : Vec3d → Verdict
vector_verdict v = first (vector_reasons v)
