-- What the table of neighbour faces has, computed over all twenty. Assumes nothing.
use mathlib.Core.Path.{◌≡◌, refl}
use mathlib.Core.Bool.{Bool, true, false, not, ◌&&◌}
use Prim.Native.Nat.{ℕ, zero, suc, ◌-◌, ◌≤◌, ◌<◌}
use native.Mathlib.Nat.{not-suc-le-zero}
use native.Mathlib.Omega.{arith}
use lib.Dec.{T, eqb, ltb, eqb→eq, ltb→lt}
use lib.Ieee.Bits.{is_false}
use lib.Ieee.Fits.{and_l, and_r}
use borrow.Author.Tests.{ltb-true}
use Rattle.reply.specs.Choice.{pick}
use Rattle.level.proofs.Computed.{all, at}
use Rattle.faceijk.specs.Faces.{face_over, dir_to}
use Rattle.faceijk.specs.Steps.{polar}

-- the edge of the face over edge e that leads back
abbrev pub back_over : ℕ → ℕ → ℕ
back_over f e = pick (ltb e 3 && polar f) (3 - e) e

-- the face g over edge e is another of the twenty, its edge b leads back, and over IJ and KI the two faces stand in one row of the step table
pub record Mate (f e g b : ℕ) : Type 0 where
  pub over : g < 20
  pub here : face_over g b ≡ f
  pub back : dir_to g f ≡ b
  pub other : eqb g f ≡ false
  pub row : pick (eqb e 3) (polar f) (polar g) ≡ polar f

abbrev same : Bool → Bool → Bool
same a b = pick a b (not b)

abbrev mate : ℕ → ℕ → ℕ → ℕ → Bool
mate f e g b =
    ltb g 20 && (eqb (face_over g b) f && (eqb (dir_to g f) b && (not (eqb g f) && same (pick (eqb e 3) (polar f) (polar g)) (polar f))))

is_same : (a b : Bool) → T (same a b) → a ≡ b
is_same true true t = refl
is_same true false t = absurd t
is_same false true t = absurd t
is_same false false t = refl

mated : (f e g b : ℕ) → T (mate f e g b) → Mate f e g b
mated f e g b t =
    let r = and_r (ltb g 20) _ t in
    let s = and_r (eqb (face_over g b) f) _ r in
    let v = and_r (eqb (dir_to g f) b) _ s in
    record {
      over = ltb→lt _ _ (and_l (ltb g 20) _ t);
      here = eqb→eq _ _ (and_l (eqb (face_over g b) f) _ r);
      back = eqb→eq _ _ (and_l (eqb (dir_to g f) b) _ s);
      other = is_false (eqb g f) (and_l (not (eqb g f)) _ v);
      row = is_same _ _ (and_r (not (eqb g f)) _ v);
    }

-- the test at all twenty faces, for one edge
abbrev mates : ℕ → Bool
mates e = all (λ (f : ℕ). mate f e (face_over f e) (back_over f e)) 20

mate_at : (e : ℕ) → T (mates e) → (f : ℕ) → f < 20 → Mate f e (face_over f e) (back_over f e)
mate_at e t f h = mated f e _ _ (at (λ (k : ℕ). mate k e (face_over k e) (back_over k e)) 20 t f h)

-- over each edge of each face lies a neighbour, and its neighbour over the edge that leads back is the face itself
pub mate_over : (e : ℕ) → 1 ≤ e → e ≤ 3 → (f : ℕ) → f < 20 → Mate f e (face_over f e) (back_over f e)
mate_over zero l h = absurd (not-suc-le-zero l)
mate_over (suc zero) l h = mate_at 1 tt
mate_over (suc (suc zero)) l h = mate_at 2 tt
mate_over (suc (suc (suc zero))) l h = mate_at 3 tt
mate_over (suc (suc (suc (suc e)))) l h = absurd (omega arith)

pub neighbour_of_neighbour : (f e : ℕ) → f < 20 → 1 ≤ e → e ≤ 3 → face_over (face_over f e) (dir_to (face_over f e) f) ≡ f
neighbour_of_neighbour f e on l h = let m = mate_over e l h f on in rw m.back m.here

-- the edge that leads back is one of the three
pub back_range : (f e : ℕ) → 1 ≤ e → e ≤ 3 → (1 ≤ back_over f e) × (back_over f e ≤ 3)
back_range f e l h = go (ltb e 3) (polar f) (ltb-true e 3)
  where
    go : (a b : Bool) → (a ≡ true → e < 3) → (1 ≤ pick (a && b) (3 - e) e) × (pick (a && b) (3 - e) e ≤ 3)
    go true true t = omega (arith, t refl)
    go true false t = omega arith
    go false b t = omega arith
