-- The difference of two whole numbers as doubles is the double of their difference, with its sign. Assumes nothing.
use mathlib.Core.Path.{◌≡◌, refl, sym, ap, ◌∙◌}
use mathlib.Core.Bool.{Bool, true, false, cond, true≢false}
use Prim.Native.Nat.{ℕ, suc, ◌+◌, ◌-◌, ◌*◌, ◌^◌, ◌≤◌, ◌<◌}
use native.Mathlib.Nat.{mul-one, mul_assoc, mul_comm, mul-pos, add-mul, zero-lt-suc}
use native.Mathlib.Omega.{arith}
use lib.IntN.{ℤ, pos, ◌-ℤ◌}
use lib.Dec.{T, ltb, lt→ltb, lit<}
use lib.Ieee.{Float, nan, inf, fin, binary64, up, down, round, sum, add, sub, neg, of_int}
use lib.Ieee.Fits.{down_pos}
use lib.Ieee.Exact.{HasValue}
use lib.Ieee.Scale.{round_same}
use lib.Ieee.Back.{round_whole}
use Rattle.coordijk.proofs.Differences.{View, view, diff_pos, diff_neg}
use lib.Arith.{le→nltb}
use lib.Ieee.Bits.{cond_no}

pick_first : (b : Bool) (x y : Float) → T b → cond b x y ≡ x
pick_first true x y t = refl
pick_first false x y t = absurd t

-- a numerator over two denominators
over : (x a de dd : ℕ) → x * 1 ≡ a * de → x * dd ≡ a * (de * dd)
over x a de dd e = ap (λ (k : ℕ). k * dd) (sym (mul-one x) ∙ e) ∙ mul_assoc a de dd

sub_wholes : (x y : Float) (a b : ℕ) → HasValue x false a 1 → HasValue y false b 1 → sub binary64 x y ≡ of_int binary64 (pos a -ℤ pos b)
unfolding sub add neg sum of_int
sub_wholes nan y a b v w = absurd v
sub_wholes (inf s) y a b v w = absurd v
sub_wholes (fin true m e) y a b v w = absurd (true≢false v.0)
sub_wholes (fin false m e) nan a b v w = absurd w
sub_wholes (fin false m e) (inf t) a b v w = absurd w
sub_wholes (fin false m e) (fin true n d) a b v w = absurd (true≢false w.0)
sub_wholes (fin false m e) (fin false n d) a b v w =
    let C = down e * down d in
    go (m * up e * down d) (n * up d * down e) C (mul-pos (down_pos e) (down_pos d)) (over (m * up e) a (down e) (down d) v.1)
    (over (n * up d) b (down d) (down e) w.1 ∙ ap (λ (z : ℕ). b * z) (mul_comm (down d) (down e))) (view a b)
  where
    go : (A B C : ℕ) → 0 < C → A ≡ a * C → B ≡ b * C → View a b
        → cond (ltb A B) (round binary64 true (B - A) C) (round binary64 false (A - B) C) ≡ of_int binary64 (pos a -ℤ pos b)
    go A B C D p q (View.up k h) =
        let s : a * C ≡ b * C + k * C = ap (λ (z : ℕ). z * C) h ∙ add-mul b k C in
        cond_no (ltb A B) (round binary64 true (B - A) C) (round binary64 false (A - B) C) (le→nltb A B (omega arith))
        ∙ round_same binary64 false (A - B) C k 1 D (lit< tt) (omega arith)
        ∙ sym (ap (λ (z : ℤ). of_int binary64 z) (diff_pos a b k h))
    go A B C D p q (View.down k h) =
        let s : b * C ≡ a * C + suc k * C = ap (λ (z : ℕ). z * C) h ∙ add-mul a (suc k) C in
        let t : 0 < suc k * C = mul-pos (zero-lt-suc k) D in
        pick_first (ltb A B) (round binary64 true (B - A) C) (round binary64 false (A - B) C) (lt→ltb A B (omega arith))
        ∙ round_same binary64 true (B - A) C (suc k) 1 D (lit< tt) (omega arith)
        ∙ sym (ap (λ (z : ℤ). of_int binary64 z) (diff_neg a b k h))

-- Two whole numbers up to 2^53, subtracted as doubles, give the double of their difference.
pub sub_ints : (a b : ℕ) → a ≤ 2 ^ 53 → b ≤ 2 ^ 53 → sub binary64 (of_int binary64 (pos a)) (of_int binary64 (pos b)) ≡ of_int binary64 (pos a -ℤ pos b)
unfolding of_int
sub_ints a b p q = sub_wholes (round binary64 false a 1) (round binary64 false b 1) a b (round_whole binary64 false a p) (round_whole binary64 false b q)
