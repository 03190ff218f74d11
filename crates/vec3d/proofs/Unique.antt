-- Two outcomes of the nearest face that meet one promise coincide. Assumes nothing.
use mathlib.Core.Path.{◌≡◌}
use lib.Dec.{T}
use lib.Ieee.{binary64, fits}
use Rattle.vec3d.specs.declared.Nearest.{Nearest}
use Rattle.reply.specs.declared.Refusal.{Refusal}
use Rattle.std.specs.Prelude.{Result}
use Rattle.reply.proofs.Entries.{WhereGiven, one_said_where}
use Rattle.double.proofs.Sign.{same_bits}
use Rattle.vec3d.specs.Nearest.{nearest_values, said_nearest}

-- An answer that a program holds: its distance is a value of the format, as every f64 is.
abbrev HeldNearest : Nearest → Type 0
HeldNearest n = T (fits binary64 n.distance)

abbrev pub Held : Result Nearest Refusal → Type 0
Held = WhereGiven HeldNearest

same_nearest : (n m : Nearest) → HeldNearest n → HeldNearest m → nearest_values n ≡ nearest_values m → n ≡ m
same_nearest n m f g v =
    let face : n.face ≡ m.face = cc in
    let distance = same_bits n.distance m.distance f g (cc) in
    λ k. record { face = face k; distance = distance k }

pub one_nearest : (a b : Result Nearest Refusal) → Held a → Held b → said_nearest a ≡ said_nearest b → a ≡ b
one_nearest = one_said_where HeldNearest 2 nearest_values same_nearest
