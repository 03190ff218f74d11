-- `CoordIJK::reduce` meets its contract: what it subtracts is the least. Assumes nothing.
use mathlib.Core.Path.{ap}
use Prim.Native.Nat.{ℕ, ◌-◌}
use Rattle.coordijk.specs.declared.CoordIJK.{CoordIJK}
use Rattle.coordijk.specs.Coordinates.{coord, reduced}
use Rattle.coordijk.proofs.CoordIJK.reduce.Goals as goal

less : CoordIJK → ℕ → CoordIJK
less c l = coord (c.i - l) (c.j - l) (c.k - l)

pub returns : goal.returns
unfolding reduced less
returns c = ap (less c.args.self) c.least_of-least.ensures
