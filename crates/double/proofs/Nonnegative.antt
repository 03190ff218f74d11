-- Doubles that are their own size (`Upto`): products, sums, quotients and whole numbers of such are such. Assumes nothing.
use mathlib.Core.Path.{◌≡◌, refl}
use mathlib.Core.Bool.{true, false, false≢true}
use Prim.Native.Nat.{ℕ, zero, suc, ◌+◌, ◌*◌, ◌/◌, ◌^◌, ◌≤◌, ◌<◌}
use native.Mathlib.Nat.{le_trans, le_of_eq, mul_comm, div-le_of_le-mul}
use native.Mathlib.Omega.{arith}
use lib.IntN.{ℤ, pos}
use lib.Dec.{eqb-suc-zero, lit<, lit≤}
use lib.Ieee.{Float, nan, inf, fin, binary64, of_bits, up, down, sum, add, mul, div, of_int, to_unsigned}
use lib.Ieee.Positive.{num, den}
use Rattle.double.specs.Double.{finite, size_of, half, one, two, two_and_half, three, rsin60, sin60, whole_of}
use Rattle.double.specs.Sizes.{Under, Upto}
use Rattle.double.proofs.Sizes.{round_size, size_under, under_le, whole_under, product_under, mul_under, add_under, none_above, quotient_under}

-- A number with its sign set is not its own size.
pub signed : {A : Type 0} (m : ℕ) (e : ℤ) → size_of (fin true m e) ≡ fin true m e → A
signed m e h = absurd (false≢true (cc))

pub upto_le : (a b : ℕ) (x : Float) → a ≤ b → Upto a x → Upto b x
upto_le a b x h p = record { under = under_le a b x h p.under; plus = p.plus }

-- The size of a number that is at most n.
pub size_upto : (n : ℕ) (x : Float) → Under n x → Upto n (size_of x)
size_upto n x p = record { under = size_under n x p; plus = twice x }
  where
    twice : (x : Float) → size_of (size_of x) ≡ size_of x
    twice nan = refl
    twice (inf s) = refl
    twice (fin s m e) = refl

pub whole_upto : (n : ℕ) → n ≤ 2 ^ 53 → Upto n (of_int binary64 (pos n))
unfolding of_int
whole_upto n N = record { under = whole_under n N; plus = round_size false n 1 }

-- ---- the operations keep the sign clear

mul_plus : (x y : Float) → finite x ≡ true → finite y ≡ true → size_of x ≡ x → size_of y ≡ y → size_of (mul binary64 x y) ≡ mul binary64 x y
unfolding mul
mul_plus nan y f g p q = absurd (false≢true f)
mul_plus (inf s) y f g p q = absurd (false≢true f)
mul_plus (fin true m e) y f g p q = signed m e p
mul_plus (fin false m e) nan f g p q = absurd (false≢true g)
mul_plus (fin false m e) (inf t) f g p q = absurd (false≢true g)
mul_plus (fin false m e) (fin true n d) f g p q = signed n d q
mul_plus (fin false m e) (fin false n d) f g p q = round_size false (m * up e * (n * up d)) (down e * down d)

-- The infinity below zero is not its own size either.
minus_inf : {A : Type 0} → size_of (inf true) ≡ inf true → A
minus_inf h = absurd (false≢true (cc))

-- A sum keeps the sign clear whatever is added, a NaN or an infinity too.
pub add_plus : (x y : Float) → size_of x ≡ x → size_of y ≡ y → size_of (add binary64 x y) ≡ add binary64 x y
unfolding add sum
add_plus nan y p q = refl
add_plus (inf true) y p q = minus_inf p
add_plus (inf false) nan p q = refl
add_plus (inf false) (inf true) p q = minus_inf q
add_plus (inf false) (inf false) p q = refl
add_plus (inf false) (fin t n d) p q = refl
add_plus (fin true m e) y p q = signed m e p
add_plus (fin false m e) nan p q = refl
add_plus (fin false m e) (inf true) p q = minus_inf q
add_plus (fin false m e) (inf false) p q = refl
add_plus (fin false m e) (fin true n d) p q = signed n d q
add_plus (fin false m e) (fin false n d) p q = round_size false (m * up e * down d + n * up d * down e) (down e * down d)

-- A square has it clear, whatever is squared.
pub square_plus : (x : Float) → size_of (mul binary64 x x) ≡ mul binary64 x x
unfolding mul
square_plus nan = refl
square_plus (inf true) = refl
square_plus (inf false) = refl
square_plus (fin true m e) = round_size false (m * up e * (m * up e)) (down e * down e)
square_plus (fin false m e) = round_size false (m * up e * (m * up e)) (down e * down e)

div_plus : (x y : Float) → finite x ≡ true → finite y ≡ true → 0 < num y → size_of x ≡ x → size_of y ≡ y → size_of (div binary64 x y) ≡ div binary64 x y
unfolding div
div_plus nan y f g o p q = absurd (false≢true f)
div_plus (inf s) y f g o p q = absurd (false≢true f)
div_plus (fin true m e) y f g o p q = signed m e p
div_plus (fin false m e) nan f g o p q = absurd (false≢true g)
div_plus (fin false m e) (inf t) f g o p q = absurd (false≢true g)
div_plus (fin false m e) (fin true n d) f g o p q = signed n d q
div_plus (fin false m e) (fin false zero d) f g o p q = none_above (up d) o
div_plus (fin false m e) (fin false (suc n) d) f g o p q = rw eqb-suc-zero (round_size false (m * up e * down d) (suc n * up d * down e))

-- A number from 0 to a, times a y from 0 to b / a, is from 0 to b.
pub product_upto : (a b n : ℕ) (x y : Float) → Upto a x → Upto n y → a * num y ≤ b * den y → b ≤ 2 ^ 53 → Upto b (mul binary64 x y)
product_upto a b n x y p q h N =
    let f = p.under.number in
    let g = q.under.number in
    record { under = product_under a b x y p.under g h N; plus = mul_plus x y f g p.plus q.plus }

pub mul_upto : (a b : ℕ) (x y : Float) → Upto a x → Upto b y → a * b ≤ 2 ^ 53 → Upto (a * b) (mul binary64 x y)
mul_upto a b x y p q N =
    record { under = mul_under a b x y p.under q.under N; plus = mul_plus x y p.under.number q.under.number p.plus q.plus }

pub add_upto : (a b : ℕ) (x y : Float) → Upto a x → Upto b y → a + b ≤ 2 ^ 53 → Upto (a + b) (add binary64 x y)
add_upto a b x y p q N =
    record { under = add_under a b x y p.under q.under N; plus = add_plus x y p.plus q.plus }

-- ---- the numbers of the paper

pub half_upto : Upto 1 half
unfolding of_bits
half_upto = record { under = record { number = refl; size = lit≤ tt }; plus = refl }

pub one_upto : Upto 1 one
unfolding of_bits
one_upto = record { under = record { number = refl; size = lit≤ tt }; plus = refl }

pub two_upto : Upto 2 two
unfolding of_bits
two_upto = record { under = record { number = refl; size = lit≤ tt }; plus = refl }

pub two_and_half_upto : Upto 3 two_and_half
unfolding of_bits
two_and_half_upto = record { under = record { number = refl; size = lit≤ tt }; plus = refl }

pub three_upto : Upto 3 three
unfolding of_bits
three_upto = record { under = record { number = refl; size = lit≤ tt }; plus = refl }

pub rsin60_upto : Upto 2 rsin60
unfolding of_bits
rsin60_upto = record { under = record { number = refl; size = lit≤ tt }; plus = refl }

pub sin60_upto : Upto 1 sin60
unfolding of_bits
sin60_upto = record { under = record { number = refl; size = lit≤ tt }; plus = refl }

-- Half of a number from 0 to 2 n is from 0 to n.
pub halved_upto : (n : ℕ) (x : Float) → Upto (2 * n) x → n ≤ 2 ^ 53 → Upto n (div binary64 x two)
unfolding of_bits
halved_upto n x p N =
    record {
      under = quotient_under (2 * n) n x two p.under refl (lit< tt) (omega arith) N;
      plus = div_plus x two p.under.number refl (lit< tt) p.plus refl;
    }

-- ---- the whole part

-- The whole part of a number from 0 to n is at most n.
pub whole_le : (n : ℕ) (x : Float) → Upto n x → whole_of x ≤ n
unfolding to_unsigned
whole_le n nan p = absurd (false≢true p.under.number)
whole_le n (inf s) p = absurd (false≢true p.under.number)
whole_le n (fin true m e) p = signed m e p.plus
whole_le n (fin false m e) p =
    let d : m * up e / down e ≤ n = div-le_of_le-mul (down e) (le_trans p.under.size (le_of_eq (mul_comm n (down e)))) in
    omega arith
