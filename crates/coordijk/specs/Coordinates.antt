-- Coordinates i, j, k of document 01: reducing, which triples are taken, and the squared distance Q.
use Rattle.std.specs.Prelude.{◌≡◌, Bool, ◌||◌, List, [], ◌∷◌, ℕ, ◌+◌, ◌-◌, ◌*◌, ◌≤◌, min, max, ltb}
use Rattle.reply.specs.declared.Refusal.TheVariants.{NotReduced}
use Rattle.reply.specs.Replies.{when, first, Verdict}
use Rattle.coordijk.specs.declared.CoordIJK.{CoordIJK}

abbrev pub coord : ℕ → ℕ → ℕ → CoordIJK
coord i j k = record { i = i; j = j; k = k }

abbrev pub least : ℕ → ℕ → ℕ → ℕ
least i j k = min i (min j k)

-- reducing subtracts the least from all three
unfoldable pub reduced : ℕ → ℕ → ℕ → CoordIJK
reduced i j k = coord (i - least i j k) (j - least i j k) (k - least i j k)

abbrev pub least_of : CoordIJK → ℕ
least_of c = least c.i c.j c.k

abbrev pub largest_of : CoordIJK → ℕ
largest_of c = max c.i (max c.j c.k)

abbrev pub sum_of : CoordIJK → ℕ
sum_of c = c.i + c.j + c.k

-- NotReduced: least coordinate not 0, or one above 2^26
abbrev pub not_reduced : CoordIJK → Bool
not_reduced c = ltb 0 (least_of c) || ltb 67108864 (largest_of c)

abbrev pub verdict_of : CoordIJK → Verdict
verdict_of c = first (when (not_reduced c) NotReduced ∷ [])

-- a triple that is taken
pub record Taken (c : CoordIJK) : Type 0 where
  pub flat : least_of c ≡ 0
  pub low : largest_of c ≤ 67108864

-- Q = i² + j² + k² - ij - jk - ki
abbrev pub norm : ℕ → ℕ → ℕ → ℕ
norm i j k = i * i + j * j + k * k - (i * j + j * k + k * i)

unfoldable pub Q : CoordIJK → ℕ
Q c = norm c.i c.j c.k

abbrev pub coord_values : CoordIJK → List ℕ
coord_values c = c.i ∷ c.j ∷ c.k ∷ []
