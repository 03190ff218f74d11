-- What is stored of corners and of points: a row for each. Assumes nothing.
use mathlib.Core.Path.{◌≡◌, refl, ap}
use mathlib.Core.List.{List, [], ◌∷◌, ◌++◌}
use Prim.Native.Nat.{ℕ}
use lib.Ieee.{Float}
use Rattle.lent.specs.Lent.{bits_of}
use Rattle.coordijk.specs.declared.CoordIJK.{CoordIJK}
use Rattle.coordijk.specs.Coordinates.{coord_values}
use Rattle.boundary.specs.declared.BoundaryPoint.{BoundaryPoint}
use Rattle.boundary.specs.Corners.{coords_values}
use Rattle.boundary.specs.Boundaries.{points_values}
use Rattle.lent_borders.specs.Borders.{marks_in, points_in}

-- corners
pub coords_snoc : (cs : List CoordIJK) (c : CoordIJK) → coords_values (cs ++ (c ∷ [])) ≡ coords_values cs ++ coord_values c
coords_snoc [] c = refl
coords_snoc (b ∷ cs) c = ap (λ (l : List ℕ). coord_values b ++ l) (coords_snoc cs c)

-- face and mark of points
abbrev pub marks_at : BoundaryPoint → List ℕ
marks_at p = p.face ∷ p.mark ∷ []

pub marks_snoc : (ps : List BoundaryPoint) (p : BoundaryPoint) → marks_in (points_values (ps ++ (p ∷ []))) ≡ marks_in (points_values ps) ++ marks_at p
marks_snoc [] p = refl
marks_snoc (q ∷ ps) p = ap (λ (l : List ℕ). marks_at q ++ l) (marks_snoc ps p)

-- x and y of points
abbrev pub xy_at : BoundaryPoint → List Float
xy_at p = p.x ∷ p.y ∷ []

abbrev pub xys : List BoundaryPoint → List Float
xys [] = []
xys (p ∷ ps) = p.x ∷ p.y ∷ xys ps

pub xys_snoc : (ps : List BoundaryPoint) (p : BoundaryPoint) → xys (ps ++ (p ∷ [])) ≡ xys ps ++ xy_at p
xys_snoc [] p = refl
xys_snoc (q ∷ ps) p = ap (λ (l : List Float). xy_at q ++ l) (xys_snoc ps p)

pub xys_bits : (ps : List BoundaryPoint) → bits_of (xys ps) ≡ points_in (points_values ps)
xys_bits [] = refl
xys_bits (p ∷ ps) = ap (λ (l : List ℕ). bits_of (xy_at p) ++ l) (xys_bits ps)
