-- `Place::about_corner` meets its contract: the turn as sums, and what it stays below. Assumes nothing.
use mathlib.Core.Path.{◌≡◌, ◌∙◌, sym, ap}
use Prim.Native.Nat.{ℕ, ◌+◌, ◌≤◌}
use native.Mathlib.Omega.{arith}
use Rattle.coordijk.specs.declared.CoordIJK.{CoordIJK}
use Rattle.coordijk.specs.Coordinates.{coord, reduced}
use Rattle.coordijk.proofs.Reducing.{reduced_low}
use Rattle.coordijk.proofs.Turning.{cw_sums}
use Rattle.faceijk.specs.Places.{place}
use Rattle.faceijk.specs.Crossing.{about_corner}
use Rattle.faceijk.proofs.Place.about_corner.Goals as goal

reduced-is : (t n : CoordIJK) (x y z : ℕ) → t ≡ reduced n.i n.j n.k → n ≡ coord x y z → t ≡ reduced x y z
reduced-is t n x y z e h = e ∙ ap (λ (d : CoordIJK). reduced d.i d.j d.k) h

low : (t : CoordIJK) (x y z : ℕ) → t ≡ reduced x y z → t.i ≤ x
low t x y z e = rw e (reduced_low x y z).0

pub overflow_add-turned : goal.overflow_add-turned
overflow_add-turned c = omega (arith, low _ _ _ _ (reduced-is _ _ _ _ _ c.reduce-turned.ensures c.new.ensures))

pub returns : goal.returns
unfolding about_corner
returns c =
    let a = c.args in
    let turned = reduced-is _ _ _ _ _ c.reduce-turned.ensures c.new.ensures in
    c.reduced_at.ensures ∙ ap (λ (t : CoordIJK). place a.self.face (reduced (t.i + a.m) t.j t.k)) (turned ∙ sym (cw_sums _))
