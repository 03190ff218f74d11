-- Numbers in hexadecimal: sixteen digits hold every number of 64 bits. Assumes nothing.
use mathlib.Core.Path.{◌≡◌, refl, ap, ◌∙◌}
use mathlib.Core.List.{[], ◌∷◌}
use Prim.Native.Nat.{ℕ, zero, suc, ◌+◌, ◌-◌, ◌/◌, ◌%◌, ◌^◌, ◌≤◌, ◌<◌}
use native.Mathlib.Decide.{dec_lt}
use native.Mathlib.Omega.{arith}
use lib.ListN.{length, length-append}
use Rattle.io.specs.Digits.{last_digits, hex_digit_ascii, IsDigitCount}
use Rattle.text.specs.Numbers.{hex}

-- k digits are k bytes
many : (k n : ℕ) → length (last_digits 16 k n) ≡ k
many zero n = refl
many (suc k) n = length-append (last_digits 16 k (n / 16)) (hex_digit_ascii (n % 16) ∷ []) ∙ omega (arith, many k (n / 16))

pub hex_length : (n : ℕ) → length (hex n) ≡ 16
unfolding hex
hex_length n = many 16 n

-- a number below 16^16 needs no more than sixteen digits
power : (k : ℕ) → 18446744073709551616 ≤ 16 ^ (k + 16)
power zero = omega arith
power (suc k) =
    let e : 16 ^ (suc k + 16) ≡ 16 ^ suc (k + 16) = ap (λ (x : ℕ). 16 ^ x) (omega arith) in
    omega (arith, power k)

count : (r n : ℕ) → n < 18446744073709551616 → IsDigitCount 16 16 n r → r ≡ 16
count r n h f =
    elim (dec_lt 16 r) [
      | yes more ↦
          let e : 16 ^ (r - 1) ≡ 16 ^ ((r - 17) + 16) = ap (λ (x : ℕ). 16 ^ x) (omega arith) in
          absurd (omega (arith, f.2 more, power (r - 17)))
      | no few ↦ omega (arith, f.0)
    ]

pub sixteen : (r n : ℕ) → n < 18446744073709551616 → IsDigitCount 16 16 n r → last_digits 16 r n ≡ hex n
unfolding hex
sixteen r n h f = ap (λ (k : ℕ). last_digits 16 k n) (count r n h f)
