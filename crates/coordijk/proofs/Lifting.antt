-- Coordinates with sign without numbers below zero: one number added to all three changes nothing once they are reduced. Assumes nothing.
use mathlib.Core.Path.{◌≡◌, refl, ap, ◌∙◌}
use mathlib.Core.Bool.{Bool, true, false}
use Prim.Native.Nat.{ℕ, ◌≤◌, ◌<◌, min}
use native.Mathlib.Omega.{arith}
use lib.IntN.{ℤ, pos, nat_abs, ◌-ℤ◌}
use lib.Dec.{leb}
use borrow.Author.Tests.{leb-true, leb-false}
use Rattle.reply.specs.Choice.{pick}
use Rattle.coordijk.specs.declared.CoordIJK.{CoordIJK}
use Rattle.coordijk.specs.Coordinates.{coord, least, reduced}
use Rattle.coordijk.specs.Signed.{signed, least_z, reduced_z}
use Rattle.coordijk.proofs.Differences.{order, apart}

least_lowered : (a b d : ℕ) → least_z (pos a -ℤ pos d) (pos b -ℤ pos d) ≡ pos (min a b) -ℤ pos d
least_lowered a b d = ap (λ (t : Bool). pick t (pos a -ℤ pos d) (pos b -ℤ pos d)) (order a b d) ∙ go (leb a b) (leb-true a b) (leb-false a b)
  where
    go : (t : Bool) → (t ≡ true → a ≤ b) → (t ≡ false → b < a) → pick t (pos a -ℤ pos d) (pos b -ℤ pos d) ≡ pos (min a b) -ℤ pos d
    go true f g = ap (λ (n : ℕ). pos n -ℤ pos d) (omega (arith, f refl))
    go false f g = ap (λ (n : ℕ). pos n -ℤ pos d) (omega (arith, g refl))

-- a triple from which one number d was taken reduces as the triple itself
pub lowered : (a b c d : ℕ) → reduced_z (signed (pos a -ℤ pos d) (pos b -ℤ pos d) (pos c -ℤ pos d)) ≡ reduced a b c
unfolding reduced
lowered a b c d =
    let l = least a b c in
    let is : least_z (pos a -ℤ pos d) (least_z (pos b -ℤ pos d) (pos c -ℤ pos d)) ≡ pos l -ℤ pos d =
    ap (least_z (pos a -ℤ pos d)) (least_lowered b c d) ∙ least_lowered a (min b c) d in
    let off : ℤ → CoordIJK = λ z. coord (nat_abs ((pos a -ℤ pos d) -ℤ z)) (nat_abs ((pos b -ℤ pos d) -ℤ z)) (nat_abs ((pos c -ℤ pos d) -ℤ z)) in
    let x = apart a l d (omega arith) in
    let y = apart b l d (omega arith) in
    let z = apart c l d (omega arith) in
    ap off is ∙ (λ n. coord (nat_abs (x n)) (nat_abs (y n)) (nat_abs (z n)))
