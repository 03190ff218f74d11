-- A decimal is the double nearest to it, by one division of two numbers that a double holds; what a double holds is read exactly. Assumes nothing.
use mathlib.Core.Path.{◌≡◌, refl, sym, ap, ◌∙◌, subst}
use mathlib.Core.Bool.{Bool, true, false, not, true≢false}
use Prim.Native.Nat.{ℕ, zero, suc, ◌+◌, ◌-◌, ◌*◌, ◌/◌, ◌%◌, ◌^◌, ◌≤◌, ◌<◌}
use native.Mathlib.Nat.{lt_irrefl, lt_of_le_of_lt, lt_of_lt_of_le, le_trans, mul_assoc, mul_comm, mul-one, mul-pos, mul_right_comm, mul-mul-mul_comm, pow-suc, pow-le-pow_right, one-le-pow, div-le_self, div-add-mod'}
use native.Mathlib.Omega.{arith}
use lib.Dec.{T, eqb, eqb-suc-zero, lit≤, lit<}
use lib.IntN.{pos}
use lib.Pow.{pow-add, pow_pos, pow_mono, shl_lt}
use lib.Ieee.{Float, nan, inf, fin, binary64, round, of_int, div, up, down}
use lib.Ieee.Bits.{cond_no}
use lib.Ieee.Fits.{down_pos}
use lib.Ieee.Exact.{HasValue, round_exact}
use lib.Ieee.Back.{round_whole}
use lib.Ieee.Scale.{round_same}
use lib.Ieee.Positive.{first_pos}

-- ---- a quotient of whole numbers

above : (t : ℕ) → 0 < t → T (not (eqb t 0))
above zero h = absurd (lt_irrefl 0 h)
above (suc t) h = subst (λ (b : Bool). T (not b)) (sym (eqb-suc-zero t)) tt

-- a · e · d · b is a · (b · d · e)
turned : (a b d e : ℕ) → a * e * d * b ≡ a * (b * d * e)
turned a b d e =
    mul_assoc (a * e) d b ∙ (mul_assoc a e (d * b) ∙ ap (λ (k : ℕ). a * k) (mul_comm e (d * b) ∙ ap (λ (k : ℕ). k * e) (mul_comm d b)))

over : (x y : Float) (a b : ℕ) → 0 < b → HasValue x false a 1 → HasValue y false b 1 → div binary64 x y ≡ round binary64 false a b
unfolding div
over nan y a b P p q = absurd p
over (inf s) y a b P p q = absurd p
over (fin s m e) nan a b P p q = absurd q
over (fin s m e) (inf t) a b P p q = absurd q
over (fin s m e) (fin true n d) a b P p q = absurd (true≢false q.0)
over (fin true m e) (fin false n d) a b P p q = absurd (true≢false p.0)
over (fin false m e) (fin false n d) a b P p q =
    let u : m * up e ≡ a * down e = sym (mul-one (m * up e)) ∙ p.1 in
    let v : n * up d ≡ b * down d = sym (mul-one (n * up d)) ∙ q.1 in
    let z : 0 < n * up d = subst (λ (k : ℕ). 0 < k) (sym v) (mul-pos P (down_pos d)) in
    cond_no (eqb n 0) _ _ (above n (first_pos n (up d) z))
    ∙ round_same binary64 false (m * up e * down d) (n * up d * down e) a b (mul-pos z (down_pos e)) P
    (ap (λ (k : ℕ). k * down d * b) u ∙ (turned a b (down d) (down e) ∙ ap (λ (k : ℕ). a * (k * down e)) (sym v)))

-- fifteen digits and their power of ten are doubles, so that only the quotient is rounded
pub once : (n k : ℕ) → n < 10 ^ 15 → k ≤ 15 → div binary64 (of_int binary64 (pos n)) (of_int binary64 (pos (10 ^ k))) ≡ round binary64 false n (10 ^ k)
unfolding of_int
once n k h g =
    let ten : 10 ^ k ≤ 2 ^ 53 = le_trans (pow-le-pow_right (lit< tt) g) (lit≤ tt) in
    over (round binary64 false n 1) (round binary64 false (10 ^ k) 1) n (10 ^ k) (one-le-pow k 10 (lit< tt))
    (round_whole binary64 false n (omega arith))
    (round_whole binary64 false (10 ^ k) ten)

-- ---- decimals that a double holds

ten_powers : (k : ℕ) → 10 ^ k ≡ 2 ^ k * 5 ^ k
ten_powers zero = refl
ten_powers (suc k) =
    pow-suc 10 k ∙
    (ap (λ (n : ℕ). n * 10) (ten_powers k) ∙
    (mul-mul-mul_comm (2 ^ k) (5 ^ k) 2 5 ∙ (ap (λ (n : ℕ). n * (5 ^ k * 5)) (sym (pow-suc 2 k)) ∙ ap (λ (n : ℕ). 2 ^ suc k * n) (sym (pow-suc 5 k)))))

-- a fraction made longer by t
longer : (x : Float) (s : Bool) (a c t : ℕ) → HasValue x s a c → HasValue x s (a * t) (c * t)
longer nan s a c t v = absurd v
longer (inf r) s a c t v = absurd v
longer (fin r m e) s a c t v =
    (v.0, sym (mul_assoc (m * up e) c t) ∙ (ap (λ (n : ℕ). n * t) v.1 ∙ mul_right_comm a (down e) t))

divides : (n m : ℕ) → n % m ≡ 0 → n / m * m ≡ n
divides n m h = omega (arith, div-add-mod' n m)

-- n / 10^k with a number that 5^k divides is a whole number over a power of two, which the double is exactly
pub exact : (n k : ℕ) → n < 10 ^ 15 → k ≤ 15 → n % 5 ^ k ≡ 0 → HasValue (round binary64 false n (10 ^ k)) false n (10 ^ k)
exact n k h g e =
    let q = n / 5 ^ k in
    let whole : q * 5 ^ k ≡ n = divides n (5 ^ k) e in
    let small : q < 2 ^ 53 = lt_of_le_of_lt (div-le_self n (5 ^ k)) (lt_of_lt_of_le h (lit≤ tt)) in
    let j : 1074 - k + k ≡ 1074 = omega arith in
    let value : HasValue (round binary64 false q (2 ^ k)) false q (2 ^ k) =
    round_exact binary64 false q (2 ^ k) q (1074 - k) (pow_pos k) small
    (lt_of_lt_of_le (shl_lt 53 (1074 - k) small) (pow_mono {i = 53 + (1074 - k)} {j = 2098} (omega arith)))
    (ap (λ (i : ℕ). q * 2 ^ i) (sym j) ∙ (ap (λ (p : ℕ). q * p) (pow-add 2 (1074 - k) k) ∙ sym (mul_assoc q (2 ^ (1074 - k)) (2 ^ k)))) in
    let fraction : round binary64 false q (2 ^ k) ≡ round binary64 false (q * 5 ^ k) (2 ^ k * 5 ^ k) =
    round_same binary64 false q (2 ^ k) (q * 5 ^ k) (2 ^ k * 5 ^ k) (pow_pos k) (mul-pos (pow_pos k) (one-le-pow k 5 (lit< tt)))
    (ap (λ (x : ℕ). q * x) (mul_comm (2 ^ k) (5 ^ k)) ∙ sym (mul_assoc q (5 ^ k) (2 ^ k))) in
    rw (ten_powers k)
    (subst (λ (a : ℕ). HasValue (round binary64 false a (2 ^ k * 5 ^ k)) false a (2 ^ k * 5 ^ k)) whole
    (subst (λ (x : Float). HasValue x false (q * 5 ^ k) (2 ^ k * 5 ^ k)) fraction (longer (round binary64 false q (2 ^ k)) false q (2 ^ k) (5 ^ k) value)))
