-- Numbers in decimal: how they are made digit by digit, and how long they get. Assumes nothing.
use mathlib.Core.Path.{◌≡◌, refl, sym, ap, ◌∙◌}
use mathlib.Core.List.{List, [], ◌∷◌, ◌++◌}
use Prim.Native.Nat.{ℕ, zero, suc, ◌+◌, ◌*◌, ◌/◌, ◌%◌, ◌^◌, ◌≤◌, ◌<◌}
use native.Mathlib.Decide.{dec_lt}
use native.Mathlib.Numerals.{unary_clauses}
use native.Mathlib.Nat.{not-suc-le-zero}
use native.Mathlib.Omega.{arith}
use lib.ListN.{length, length-append}
use borrow.Author.Tests.{lt-ltb, le-ltb}
use Rattle.io.specs.Digits.{last_digits, IsDigitCount}
use Rattle.text.specs.Numbers.{digit, digits_to, decimal, field}

one_digit : (t n : ℕ) → n < 10 → digits_to (suc t) n ≡ digit n ∷ []
unfolding digits_to
one_digit t n h = simp (lt-ltb n 10 h)

more_digits : (t n : ℕ) → 10 ≤ n → digits_to (suc t) n ≡ digits_to t (n / 10) ++ digit (n % 10) ∷ []
unfolding digits_to
more_digits t n h = simp (le-ltb n 10 h)

-- more digits than are needed change nothing
enough : (t u n : ℕ) → n < t → n < u → digits_to t n ≡ digits_to u n
enough zero u n h g = absurd (not-suc-le-zero h)
enough (suc t) zero n h g = absurd (not-suc-le-zero g)
enough (suc t) (suc u) n h g =
    elim (dec_lt n 10) [
      | yes s ↦ one_digit t n s ∙ sym (one_digit u n s)
      | no l ↦
          let big : 10 ≤ n = omega arith in
          more_digits t n big ∙
          (ap (λ (x : List ℕ). x ++ digit (n % 10) ∷ []) (enough t u (n / 10) (omega arith) (omega arith)) ∙ sym (more_digits u n big))
    ]

-- a number below ten is its digit; another is its tenth's digits and its last one
pub small : (n : ℕ) → n < 10 → decimal n ≡ digit n ∷ []
unfolding decimal
small n h = one_digit n n h

pub large : (n : ℕ) → 10 ≤ n → decimal n ≡ decimal (n / 10) ++ digit (n % 10) ∷ []
unfolding decimal
large n h = more_digits n n h ∙ ap (λ (x : List ℕ). x ++ digit (n % 10) ∷ []) (enough n (suc (n / 10)) (n / 10) (omega arith) (omega arith))

pub longer : (n : ℕ) → 10 ≤ n → length (decimal n) ≡ length (decimal (n / 10)) + 1
longer n h = ap length (large n h) ∙ length-append (decimal (n / 10)) (digit (n % 10) ∷ [])

-- a number below 10^(k+1) has at most k + 1 digits
pub short : (k n : ℕ) → n < 10 ^ suc k → length (decimal n) ≤ suc k
short zero n h = let e = ap length (small n (omega arith)) in omega arith
short (suc k) n h =
    elim (dec_lt n 10) [
      | yes s ↦ let e = ap length (small n s) in omega arith
      | no l ↦
          let e = ap length (large n (omega arith)) ∙ length-append (decimal (n / 10)) (digit (n % 10) ∷ []) in
          let tenth : n / 10 < 10 ^ suc k = omega arith in
          let i = short k (n / 10) tenth in
          omega arith
    ]

pub short10 : (n : ℕ) → n < 4294967296 → length (decimal n) ≤ 10
short10 n h = short 9 n (omega arith)

pub short20 : (n : ℕ) → n < 18446744073709551616 → length (decimal n) ≤ 20
short20 n h = short 19 n (omega arith)

-- every number has a digit
pub some_digit : (n : ℕ) → 1 ≤ length (decimal n)
some_digit n =
    elim (dec_lt n 10) [
      | yes s ↦ let e = ap length (small n s) in omega arith
      | no l ↦
          let e = ap length (large n (omega arith)) ∙ length-append (decimal (n / 10)) (digit (n % 10) ∷ []) in
          omega arith
    ]

some_power : (k : ℕ) → 1 ≤ 10 ^ k
some_power zero = omega arith
some_power (suc k) = omega (arith, some_power k)

tenth_least : (p n : ℕ) → p * 10 ≤ n → p ≤ n / 10
tenth_least p n h = omega arith

-- the fewest digits that hold a number, at least one, are its digits in decimal
pub spelt : (k n : ℕ) → IsDigitCount 10 1 n k → last_digits 10 k n ≡ decimal n
spelt zero n f = absurd (not-suc-le-zero f.0)
spelt (suc zero) n f =
    let low : n < 10 = omega (arith, f.1) in
    let last : n % 10 ≡ n = omega arith in
    rw (last, small n low, lt-ltb n 10 low) refl
spelt (suc (suc k)) n f =
    let least : 10 ^ k * 10 ≤ n = simp unary_clauses at (f.2 (omega arith)) in
    let high : 10 ≤ n = omega (arith, some_power k) in
    let low : n % 10 < 10 = omega arith in
    let tenth : IsDigitCount 10 1 (n / 10) (suc k) = (omega arith, omega (arith, f.1), λ more. simp unary_clauses (tenth_least (10 ^ k) n least)) in
    rw (large n high, spelt (suc k) (n / 10) tenth, lt-ltb (n % 10) 10 low) refl

-- a space more
pub field_length : (n : ℕ) → length (field n) ≡ length (decimal n) + 1
unfolding field
field_length n = omega arith

pub field_short10 : (n : ℕ) → n < 4294967296 → length (field n) ≤ 11
field_short10 n h = omega (arith, field_length n, short10 n h)

pub field_short20 : (n : ℕ) → n < 18446744073709551616 → length (field n) ≤ 21
field_short20 n h = omega (arith, field_length n, short20 n h)
