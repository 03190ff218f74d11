-- Unit scale and limit, once over all grid levels: what the table has, and how large they are. Assumes nothing.
use mathlib.Core.Path.{◌≡◌}
use mathlib.Core.Bool.{Bool, true, false}
use mathlib.Core.List.{List, [], ◌∷◌}
use Prim.Native.Nat.{ℕ, ◌*◌, ◌/◌, ◌^◌, ◌≤◌, ◌<◌}
use native.Mathlib.Omega.{arith}
use lib.Dec.{eqb, ltb, eqb→eq, ltb→lt}
use lib.ListN.{get_or}
use Rattle.level.specs.Levels.{unit_of, limit_of, grid_of, Sound}
use Rattle.level.proofs.Computed.{at}

-- the code's table
unfoldable pub units : List ℕ
units = 1 ∷ 7 ∷ 49 ∷ 343 ∷ 2401 ∷ 16807 ∷ 117649 ∷ 823543 ∷ 5764801 ∷ []

pub units_are : (h : ℕ) → h < 9 → get_or units h 0 ≡ 7 ^ h
unfolding units
units_are h l = eqb→eq _ _ (at (λ (k : ℕ). eqb (get_or units k 0) (7 ^ k)) 9 tt h l)

pub power_small : (h : ℕ) → h < 9 → 3 * 7 ^ h < 33554432
power_small h l = ltb→lt _ _ (at (λ (k : ℕ). ltb (3 * 7 ^ k) 33554432) 9 tt h l)

power_pos : (h : ℕ) → h < 9 → 0 < 7 ^ h
power_pos h l = ltb→lt _ _ (at (λ (k : ℕ). ltb 0 (7 ^ k)) 9 tt h l)

unit_small : (l : ℕ) (s : Bool) → l ≤ 16 → unit_of l s < 33554432
unfolding unit_of
unit_small l true h = power_small (l / 2) (omega arith)
unit_small l false h = omega (arith, power_small (l / 2) (omega arith))

unit_pos : (l : ℕ) (s : Bool) → l ≤ 16 → 0 < unit_of l s
unfolding unit_of
unit_pos l true h = omega (arith, power_pos (l / 2) (omega arith))
unit_pos l false h = power_pos (l / 2) (omega arith)

-- the limit is twice the unit scale
pub limit_twice : (l : ℕ) (s : Bool) → limit_of l s ≡ 2 * unit_of l s
unfolding unit_of limit_of
limit_twice l true = omega arith
limit_twice l false = omega arith

-- up to level 16, plain or substrate, the unit scale is above 0 and below 2^25, and the limit is twice that
pub grid_sound : (l : ℕ) (s : Bool) → l ≤ 16 → Sound (grid_of l s)
grid_sound l s h = record { twice = limit_twice l s; some = unit_pos l s h; small = unit_small l s h }
