-- Document 02, §6: the centre that rounding chooses is the nearest, but for 2^-40. It is said over whole numbers, in the coordinates x1, x2 before folding.
-- These are rounded themselves, and how far is another matter: Roundoff.
use Rattle.reply.specs.declared.Refusal.{Refusal}
use Rattle.std.specs.Prelude.{ℕ, ◌+◌, ◌*◌, ◌^◌, ◌<◌, false, ℤ, pos, ◌+ℤ◌, ◌-ℤ◌, ◌*ℤ◌, ◌≤ℤ◌, Float, Ok, Err, Result}
use Rattle.std.specs.Float.Ieee.{lt}
use Rattle.std.specs.Float.Ieee.Exact.{HasValue}
use Rattle.double.specs.Double.{nought}
use Rattle.coordijk.specs.declared.CoordIJK.{CoordIJK}
use Rattle.coordijk.specs.Signed.{Signed}
use Rattle.vec2d.specs.declared.Vec2d.{Vec2d}
use Rattle.vec2d.specs.declared.Found.{Found}
use Rattle.vec2d.specs.Rounding.{x1_of, x2_of, quantized_of, folded}

-- a² + b² - ab: the squared distance, since a centre lies at x = i - j/2 and y = j·sin 60° (`squared_distance` of proofs/Measures)
abbrev pub measure : ℤ → ℤ → ℤ
measure a b = a *ℤ a +ℤ b *ℤ b -ℤ a *ℤ b

-- of the point (m, n) from the centre (i, j), all counted in one unit
abbrev pub apart : ℕ → ℕ → ℤ → ℤ → ℤ
apart m n i j = measure (pos m -ℤ i) (pos n -ℤ j)

-- of the point (m / u, n / u) from a centre (i, j) of ℤ², times u²
abbrev pub from_centre : ℕ → ℕ → ℕ → ℤ → ℤ → ℤ
from_centre u m n i j = apart m n (pos u *ℤ i) (pos u *ℤ j)

-- From the centre (i, j) the point (m / u, n / u) has a measure of at most 1/3 + 2^-40, and no centre of ℤ² has one that is smaller by more than 2^-40. Both
-- are said times 2^40 and u², the first times 3 too.
pub record Nearest (u m n : ℕ) (i j : ℤ) : Type 0 where
  pub close : (pos (3 * 2 ^ 40) *ℤ from_centre u m n i j) ≤ℤ pos ((2 ^ 40 + 3) * (u * u))
  pub least : (a b : ℤ) → (pos (2 ^ 40) *ℤ from_centre u m n i j) ≤ℤ (pos (2 ^ 40) *ℤ from_centre u m n a b +ℤ pos (u * u))

-- A hexagon before the folds: i - k and j - k, folded again, since the folds undo themselves (`undone` of proofs/Unfolding).
abbrev pub unfolded : Vec2d → CoordIJK → Signed
unfolded v c = folded (lt v.x nought) (lt v.y nought) (pos c.i -ℤ pos c.k) (pos c.j -ℤ pos c.k)

-- x = m + r, exactly: m is its whole part and r its leftover, which is n / 2^1074 and below 1. Every double is a whole number of 2^-1074, so that this one
-- unit serves every point. (`HasValue r false n u` says that r is n / u, and no minus zero.)
pub record Parted (x : Float) (m : ℕ) (r : Float) : Type 0 where
  pub n : ℕ
  pub left : HasValue r false n (2 ^ 1074)
  pub low : n < 2 ^ 1074
  pub whole : HasValue x false (m * 2 ^ 1074 + n) (2 ^ 1074)

-- What may be trusted of the hexagon and the leftovers that were found for v: the hexagon, unfolded, is the centre nearest to (x1, x2).
pub record Trusted (v : Vec2d) (f : Found) : Type 0 where
  pub first : Parted (x1_of v) (quantized_of v).m1 f.left.r1
  pub second : Parted (x2_of v) (quantized_of v).m2 f.left.r2
  pub nearest :
      let h = unfolded v f.hexagon in
      Nearest (2 ^ 1074) ((quantized_of v).m1 * 2 ^ 1074 + first.n) ((quantized_of v).m2 * 2 ^ 1074 + second.n) h.i h.j

-- the same of the entry's answer
abbrev pub Shown : Vec2d → Result Found Refusal → Type 0
Shown v (Ok f) = Trusted v f
Shown v (Err r) = Unit
