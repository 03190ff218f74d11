-- Two outcomes of an entry that meet one promise coincide. Assumes nothing.
use mathlib.Core.Path.{◌≡◌, refl}
use mathlib.Core.List.{List, [], ◌∷◌}
use Prim.Native.Nat.{ℕ}
use native.Mathlib.Omega.{arith}
use lib.Dec.{T}
use lib.Ieee.{binary64, fits}
use Rattle.std.specs.Prelude.{Result}
use Rattle.reply.specs.declared.Refusal.{Refusal}
use Rattle.reply.proofs.Entries.{one_said, WhereGiven, one_said_where}
use Rattle.coordijk.specs.declared.CoordIJK.{CoordIJK}
use Rattle.coordijk.proofs.Unique.{same_coord}
use Rattle.double.proofs.Sign.{same_bits}
use Rattle.boundary.specs.declared.Corners.{Corners}
use Rattle.boundary.specs.declared.BoundaryPoint.{BoundaryPoint}
use Rattle.boundary.specs.declared.Boundary.{Boundary}
use Rattle.boundary.specs.Corners.{coords_values, corners_values, said_corners}
use Rattle.boundary.specs.Boundaries.{points_values, said_boundary}

same_coords : (xs ys : List CoordIJK) → coords_values xs ≡ coords_values ys → xs ≡ ys
same_coords [] [] e = refl
same_coords [] (d ∷ ds) e = let z : ◌≡◌ {A = ℕ} 0 1 = cc in absurd (omega arith)
same_coords (c ∷ cs) [] e = let z : ◌≡◌ {A = ℕ} 0 1 = cc in absurd (omega arith)
same_coords (c ∷ cs) (d ∷ ds) e =
    let first = same_coord c d (cc) (cc) (cc) in
    let rest = same_coords cs ds (cc) in
    λ n. first n ∷ rest n

same_corners : (c d : Corners) → corners_values c ≡ corners_values d → c ≡ d
same_corners c d v =
    let level : c.level.0 ≡ d.level.0 = cc in
    let corners = same_coords c.corners d.corners (cc) in
    λ n. record { level = record { 0 = level n }; corners = corners n }

-- Two answers with corners, or refusals, that say the same are one.
pub one_corners : (a b : Result Corners Refusal) → said_corners a ≡ said_corners b → a ≡ b
one_corners = one_said 19 corners_values same_corners

-- Points that a program holds: each part is a value of the format, as every f64 is.
pub record Held (p : BoundaryPoint) : Type 0 where
  pub x : T (fits binary64 p.x)
  pub y : T (fits binary64 p.y)

abbrev pub AllHeld : List BoundaryPoint → Type 0
AllHeld [] = Unit {0}
AllHeld (p ∷ ps) = Held p × AllHeld ps

same_points : (xs ys : List BoundaryPoint) → AllHeld xs → AllHeld ys → points_values xs ≡ points_values ys → xs ≡ ys
same_points [] [] f g e = refl
same_points [] (q ∷ qs) f g e = let z : ◌≡◌ {A = ℕ} 0 1 = cc in absurd (omega arith)
same_points (p ∷ ps) [] f g e = let z : ◌≡◌ {A = ℕ} 0 1 = cc in absurd (omega arith)
same_points (p ∷ ps) (q ∷ qs) f g e =
    let face : p.face ≡ q.face = cc in
    let x = same_bits p.x q.x f.0.x g.0.x (cc) in
    let y = same_bits p.y q.y f.0.y g.0.y (cc) in
    let kind : p.mark ≡ q.mark = cc in
    let rest = same_points ps qs f.1 g.1 (cc) in
    λ n. record { face = face n; x = x n; y = y n; mark = kind n } ∷ rest n

same_boundary : (a b : Boundary) → AllHeld a.points → AllHeld b.points → (a.count ∷ points_values a.points) ≡ (b.count ∷ points_values b.points) → a ≡ b
same_boundary a b f g v =
    let count : a.count ≡ b.count = cc in
    let points = same_points a.points b.points f g (cc) in
    λ n. record { count = count n; points = points n }

-- Two boundaries that a program holds, or refusals, that say the same are one.
pub one_boundary : (a b : Result Boundary Refusal) → WhereGiven (λ (x : Boundary). AllHeld x.points) a → WhereGiven (λ (x : Boundary). AllHeld x.points) b → said_boundary a ≡ said_boundary b → a ≡ b
one_boundary = one_said_where (λ (x : Boundary). AllHeld x.points) 49 (λ b. b.count ∷ points_values b.points) same_boundary
