-- Two outcomes of an entry that meet one promise coincide. Assumes nothing.
use mathlib.Core.Path.{◌≡◌, refl}
use mathlib.Core.List.{List, [], ◌∷◌}
use Prim.Native.Nat.{ℕ}
use native.Mathlib.Omega.{arith}
use Rattle.reply.specs.declared.Refusal.{Refusal}
use Rattle.std.specs.Prelude.{Result}
use Rattle.reply.specs.Order.{Each}
use Rattle.reply.proofs.Entries.{WhereGiven, one_said_where}
use Rattle.double.proofs.Sign.{same_bits}
use Rattle.vec3d.specs.declared.Vec3d.{Vec3d}
use Rattle.globe.specs.declared.SpherePoint.{SpherePoint}
use Rattle.globe.specs.declared.SphereBoundary.{SphereBoundary}
use Rattle.globe.specs.Points.{vector, vector_values, said_lifted}
use Rattle.globe.specs.Boundaries.{with_vector, sphere_points_values, said_globe}
use Rattle.globe.proofs.UnitVector.{Held}
use Rattle.globe.proofs.OnSphere.{vector_at}

-- Two vectors that a program holds and that say the same are one.
pub same_vector : (v w : Vec3d) → Held v → Held w → vector_values v ≡ vector_values w → v ≡ w
same_vector v w f g e =
    let x = same_bits v.x w.x f.x g.x (cc) in
    let y = same_bits v.y w.y f.y g.y (cc) in
    let z = same_bits v.z w.z f.z g.z (cc) in
    λ n. vector (x n) (y n) (z n)

-- So are two answers of one point, or refusals.
pub one_lifted : (a b : Result Vec3d Refusal) → WhereGiven Held a → WhereGiven Held b → said_lifted a ≡ said_lifted b → a ≡ b
one_lifted = one_said_where Held 3 vector_values same_vector

-- the points of a boundary that a program holds
abbrev pub AllHeld : List SpherePoint → Type 0
AllHeld ps = Each (λ (p : SpherePoint). Held (vector_at p)) ps

same_points : (xs ys : List SpherePoint) → AllHeld xs → AllHeld ys → sphere_points_values xs ≡ sphere_points_values ys → xs ≡ ys
same_points [] [] f g e = refl
same_points [] (q ∷ qs) f g e = let z : ◌≡◌ {A = ℕ} 0 1 = cc in absurd (omega arith)
same_points (p ∷ ps) [] f g e = let z : ◌≡◌ {A = ℕ} 0 1 = cc in absurd (omega arith)
same_points (p ∷ ps) (q ∷ qs) f g e =
    let face : p.face ≡ q.face = cc in
    let mark : p.mark ≡ q.mark = cc in
    let v = same_vector (vector_at p) (vector_at q) f.0 g.0 (cc) in
    let rest = same_points ps qs f.1 g.1 (cc) in
    λ n. with_vector (face n) (mark n) (v n) ∷ rest n

same_globe : (a b : SphereBoundary) → AllHeld a.points → AllHeld b.points → (a.count ∷ sphere_points_values a.points) ≡ (b.count ∷ sphere_points_values b.points) → a ≡ b
same_globe a b f g v =
    let count : a.count ≡ b.count = cc in
    let points = same_points a.points b.points f g (cc) in
    λ n. record { count = count n; points = points n }

-- Two boundaries on the sphere that a program holds, or refusals, that say the same are one.
pub one_globe : (a b : Result SphereBoundary Refusal) → WhereGiven (λ (x : SphereBoundary). AllHeld x.points) a → WhereGiven (λ (x : SphereBoundary). AllHeld x.points) b → said_globe a ≡ said_globe b → a ≡ b
one_globe = one_said_where (λ (x : SphereBoundary). AllHeld x.points) 61 (λ b. b.count ∷ sphere_points_values b.points) same_globe
