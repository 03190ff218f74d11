-- A corner within the limit stays where it is, whether its shape crosses or settles it. Assumes nothing.
use mathlib.Core.Path.{◌≡◌, refl, sym, ap}
use mathlib.Core.Bool.{Bool, true, false, ◌&&◌}
use Prim.Native.Nat.{ℕ, ◌≤◌, ◌<◌}
use native.Mathlib.Omega.{arith}
use lib.Dec.{eqb}
use borrow.Author.Tests.{ne_eqb}
use Rattle.reply.specs.Choice.{pick}
use Rattle.level.specs.declared.Grid.{Grid}
use Rattle.faceijk.specs.declared.Place.{Place}
use Rattle.faceijk.specs.declared.Rested.{Rested}
use Rattle.faceijk.specs.declared.Overage.TheVariants.{None}
use Rattle.faceijk.specs.Places.{sum_at, QAt}
use Rattle.faceijk.specs.Crossing.{landed, on_edge}
use Rattle.faceijk.proofs.Crossing.{stays}
use Rattle.faceijk.proofs.Settling.{rests}
use Rattle.boundary.specs.Landing.{settled_at, crossed_once, land_from}

neither : (s b : Bool) → b ≡ false → (s && b) ≡ false
neither true b e = e
neither false b e = refl

module _ (g : Grid) (p : Place) (near : sum_at p < g.limit) where
  inside : sum_at p ≤ g.limit
  inside = omega arith

  off : on_edge g p ≡ false
  off = neither g.substrate _ (ne_eqb (sum_at p) g.limit (λ e. omega arith))

  by_shape : (b : Bool) → landed p None ≡ pick b (settled_at g p) (crossed_once g p)
  by_shape true = ap (λ (r : Rested). landed r.place None) (sym (rests g (QAt p) p 0 inside))
  by_shape false = stays false g p false (sym off) refl inside

  pub stays_put : (sides : ℕ) → landed p None ≡ land_from sides g p
  unfolding land_from
  stays_put sides = by_shape (eqb sides 5)
