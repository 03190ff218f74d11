-- Where a crossing point is looked for: not before the first corner, and for Class III cells only. Assumes nothing.
use mathlib.Core.Path.{◌≡◌, refl, sym}
use mathlib.Core.Bool.{Bool, true, false, not, ◌||◌, true≢false}
use Prim.Native.Nat.{ℕ}
use native.Mathlib.Omega.{arith}
use lib.Dec.{eqb}
use borrow.Author.Tests.{eq-eqb, ne_eqb}
use Rattle.boundary.specs.declared.BoundaryPoint.{BoundaryPoint}
use Rattle.reply.specs.declared.Refusal.{Refusal}
use Rattle.std.specs.Prelude.{Ok, Result, Option, None}
use Rattle.reply.specs.Choice.{pick}
use Rattle.faceijk.specs.declared.Landed.{Landed}
use Rattle.boundary.specs.declared.Shape.{Shape}
use Rattle.boundary.specs.Landing.{vertex_of}
use Rattle.boundary.specs.CrossingPoints.{hexagon_crossing, pentagon_crossing, crossing_between}
use Rattle.boundary.specs.AsWalked.{before_from}

neither : (a b : Bool) (x : Result (Option BoundaryPoint) Refusal) → (a || not b) ≡ true → Ok None ≡ pick a (Ok None) (pick b x (Ok None))
neither true b x e = refl
neither false true x e = absurd (true≢false (sym e))
neither false false x e = refl

both : (a b : Bool) (x : Result (Option BoundaryPoint) Refusal) → (a || not b) ≡ false → x ≡ pick a (Ok None) (pick b x (Ok None))
both true b x e = absurd (true≢false e)
both false true x e = refl
both false false x e = absurd (true≢false e)

module _ (s : Shape) (k : ℕ) (last now : Landed) where
  pub not_needed : (eqb k 0 || not s.cell.odd) ≡ true → Ok None ≡ before_from s k last now
  unfolding before_from crossing_between
  not_needed e = neither (eqb k 0) s.cell.odd _ e

  pub hexagon_needed : (eqb k 0 || not s.cell.odd) ≡ false → s.sides ≡ 6 → hexagon_crossing s.cell last now.place.face (vertex_of s k) ≡ before_from s k last now
  unfolding before_from crossing_between
  hexagon_needed e six = rw (ne_eqb s.sides 5 (λ z. omega (arith, six))) (both (eqb k 0) s.cell.odd _ e)

  pub pentagon_needed : (eqb k 0 || not s.cell.odd) ≡ false → s.sides ≡ 5 → pentagon_crossing s.cell last.place now.place ≡ before_from s k last now
  unfolding before_from crossing_between
  pentagon_needed e five = rw (eq-eqb s.sides 5 five) (both (eqb k 0) s.cell.odd _ e)
