-- What is stored of the points of a boundary on the sphere: a row for each. Assumes nothing.
use mathlib.Core.Path.{◌≡◌, refl, ap}
use mathlib.Core.List.{List, [], ◌∷◌, ◌++◌}
use Prim.Native.Nat.{ℕ}
use lib.Ieee.{Float}
use Rattle.lent.specs.Lent.{bits_of}
use Rattle.globe.specs.declared.SpherePoint.{SpherePoint}
use Rattle.globe.specs.Boundaries.{sphere_points_values}
use Rattle.lent_globe.specs.Globes.{marks_in, vectors_in}

-- face and mark
abbrev pub marks_at : SpherePoint → List ℕ
marks_at p = p.face ∷ p.mark ∷ []

pub marks_snoc : (ps : List SpherePoint) (p : SpherePoint) → marks_in (sphere_points_values (ps ++ (p ∷ []))) ≡ marks_in (sphere_points_values ps) ++ marks_at p
marks_snoc [] p = refl
marks_snoc (q ∷ ps) p = ap (λ (l : List ℕ). marks_at q ++ l) (marks_snoc ps p)

-- x, y and z
abbrev pub vector_at : SpherePoint → List Float
vector_at p = p.x ∷ p.y ∷ p.z ∷ []

abbrev pub vectors : List SpherePoint → List Float
vectors [] = []
vectors (p ∷ ps) = p.x ∷ p.y ∷ p.z ∷ vectors ps

pub vectors_snoc : (ps : List SpherePoint) (p : SpherePoint) → vectors (ps ++ (p ∷ [])) ≡ vectors ps ++ vector_at p
vectors_snoc [] p = refl
vectors_snoc (q ∷ ps) p = ap (λ (l : List Float). vector_at q ++ l) (vectors_snoc ps p)

pub vectors_bits : (ps : List SpherePoint) → bits_of (vectors ps) ≡ vectors_in (sphere_points_values ps)
vectors_bits [] = refl
vectors_bits (p ∷ ps) = ap (λ (l : List ℕ). bits_of (vector_at p) ++ l) (vectors_bits ps)
