-- How far a point is from the six centres about one, squared, over whole numbers: what the margin compares.
use Rattle.std.specs.Prelude.{ℕ, ◌+◌, List, [], ◌∷◌, ℤ, pos}
use Rattle.vec2d.specs.Nearest.{apart}

-- of the point (m, n) from the neighbours of the centre (i, j), at (1, 0), (1, 1), (0, 1) and opposite, all counted in one unit: from a centre a unit back the
-- point lies a unit further on
abbrev pub from_neighbours : ℕ → ℕ → ℕ → ℕ → ℕ → List ℤ
from_neighbours unit m n i j =
    apart m n (pos (i + unit)) (pos j)
    ∷ apart m n (pos (i + unit)) (pos (j + unit))
    ∷ apart m n (pos i) (pos (j + unit))
    ∷ apart (m + unit) n (pos i) (pos j)
    ∷ apart (m + unit) (n + unit) (pos i) (pos j)
    ∷ apart m (n + unit) (pos i) (pos j)
    ∷ []
