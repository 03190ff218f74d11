-- x1 and x2 are rounded: how near they are to the numbers that they stand for, |x| + |y|/√3 and 2·|y|/√3, in units of 2^-1074 (`units_of`).
use Rattle.std.specs.Prelude.{ℕ, ◌+◌, ◌-◌, ◌*◌, ◌/◌, ◌^◌, ◌≤◌}
use Rattle.double.specs.Sizes.{units_of}
use Rattle.vec2d.specs.declared.Vec2d.{Vec2d}
use Rattle.vec2d.specs.Rounding.{x1_of, x2_of}

-- one part in 2^51, and two units
abbrev pub slack : ℕ → ℕ
slack n = n / 2 ^ 51 + 2

-- p + √(q/3) is n, but for e: n - e ≤ p + √(q/3) ≤ n + e, said without the root. A difference stops at 0
pub record ButFor (p q n e : ℕ) : Type 0 where
  pub reached : p ≤ n + e
  pub under : 3 * ((n - e - p) * (n - e - p)) ≤ q
  pub over : q ≤ 3 * ((n + e - p) * (n + e - p))

-- |x| + √(y²/3) is x1, and √(4·y²/3) is x2, each but for its slack
pub record Roundoff (v : Vec2d) : Type 0 where
  pub first : let n = units_of (x1_of v) in let y = units_of v.y in ButFor (units_of v.x) (y * y) n (slack n)
  pub second : let n = units_of (x2_of v) in let y = units_of v.y in ButFor 0 (4 * (y * y)) n (slack n)
