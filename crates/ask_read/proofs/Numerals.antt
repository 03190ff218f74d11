-- Numbers in decimal: ten digits hold every number up to 4294967295, and a number as a field is the decimal of its number: no sign, no leading zero, nothing else. Assumes nothing.
use mathlib.Core.Path.{◌≡◌, refl, sym, ap, ◌∙◌}
use mathlib.Core.Bool.{Bool, true, false, false≢true, ◌&&◌}
use mathlib.Core.List.{List, [], ◌∷◌, ◌++◌, append_assoc, append-nil}
use Prim.Native.Nat.{ℕ, suc, ◌+◌, ◌-◌, ◌*◌, ◌^◌, ◌≤◌, zero, ◌/◌, ◌%◌, ◌<◌}
use native.Mathlib.Nat.{le_trans, le_of_eq, mul_assoc, mul_comm, mul-one, mul-le-mul_right, one-mul, pow-suc, pow-le-pow_right, not-suc-le-zero, one-le-pow}
use native.Mathlib.Omega.{arith}
use lib.Dec.{ltb, eqb, lit<, lit≤}
use lib.ListN.{length}
use borrow.Author.Tests.{eqb-false, not-true, le-ltb, lt-ltb, ne_eqb}
use Rattle.reply.specs.Choice.{pick}
use Rattle.std.specs.Prelude.{Some, None, option_and_then}
use Rattle.std.proofs.lemmas.Option.{none-some, same_Some, option_and_then_some}
use Rattle.ask_read.specs.Words.{digit_of, with_digit, spelt, plain, number_from, number_field}
use Rattle.ask_read.proofs.Spelling.{within, one_digit, spelt_room, spelt_append}
use native.Mathlib.Decide.{dec_lt}
use Rattle.reply.proofs.Entries.{both}
use Rattle.text.specs.Numbers.{decimal, digit}
use Rattle.text.proofs.Decimals.{small, large, longer, some_digit, short, short10}

-- ---- numerals of many digits

-- only the bytes 48 to 57 count for less than ten, and only 48 for 0
digit_is : (b : ℕ) → digit_of b < 10 → b ≡ digit (digit_of b)
unfolding digit_of
digit_is b = go (ltb 47 b && ltb b 58) (ltb 96 b && ltb b 103) (ltb 64 b && ltb b 71) refl refl refl
  where
    go : (t u v : Bool) → (ltb 47 b && ltb b 58) ≡ t → (ltb 96 b && ltb b 103) ≡ u → (ltb 64 b && ltb b 71) ≡ v → pick t (b - 48) (pick u (b - 87) (pick v (b - 55) 16)) < 10 → b ≡ digit (pick t (b - 48) (pick u (b - 87) (pick v (b - 55) 16)))
    go true u v e f g h = omega (arith, within 47 58 b e)
    go false true v e f g h = absurd (omega (arith, within 96 103 b f))
    go false false true e f g h = absurd (omega (arith, within 64 71 b g))
    go false false false e f g h = absurd (omega arith)

counts : (b : ℕ) → (b ≡ 48 → ⊥) → 1 ≤ digit_of b
counts b h =
    elim (dec_lt (digit_of b) 10) [
      | yes s ↦ omega (arith, digit_is b s, h)
      | no l ↦ omega arith
    ]

-- each digit makes the number ten times as large at least
grown : (v : ℕ) (s : List ℕ) (r : ℕ) → spelt 10 v s ≡ Some r → v * 10 ^ length s ≤ r
unfolding spelt
grown v [] r e = le_of_eq (mul-one v ∙ same_Some v r e)
grown v (b ∷ s) r e =
    option_and_then_some (λ (n : ℕ). spelt 10 n s) (with_digit 10 v b) r e (λ n f g.
    let d = one_digit 10 v b n f in
    let more : v * 10 ≤ n = omega (arith, d.1) in
    let p = 10 ^ length s in
    let same : v * 10 ^ suc (length s) ≡ v * 10 * p = ap (λ (x : ℕ). v * x) (pow-suc 10 (length s) ∙ mul_comm p 10) ∙ sym (mul_assoc v 10 p) in
    le_trans (le_of_eq same) (le_trans (mul-le-mul_right p more) (grown n s r g)))

first : (b c : ℕ) (s : List ℕ) → plain (b ∷ c ∷ s) ≡ true → b ≡ 48 → ⊥
unfolding plain
first b c s e = eqb-false b 48 (not-true (eqb b 48) (rw (le-ltb (suc (suc (length s))) 2 (omega arith)) at e))

-- so the bound of ten digits on a number shuts out none that fits
pub longest : (w : List ℕ) (r : ℕ) → plain w ≡ true → spelt 10 0 w ≡ Some r → 11 ≤ length w → 4294967296 ≤ r
unfolding spelt
longest [] r p e h = omega arith
longest (b ∷ []) r p e h = omega arith
longest (b ∷ c ∷ s) r p e h =
    option_and_then_some (λ (n : ℕ). spelt 10 n (c ∷ s)) (with_digit 10 0 b) r e (λ n f g.
    let d = one_digit 10 0 b n f in
    let some : 1 ≤ n = omega (arith, d.1, counts b (first b c s p)) in
    let tens : 10 ^ 10 ≤ 10 ^ length (c ∷ s) = pow-le-pow_right {n = 10} (lit< tt) {i = 10} {j = length (c ∷ s)} (omega arith) in
    le_trans (lit≤ tt) (le_trans tens (le_trans (le_of_eq (sym (one-mul (10 ^ length (c ∷ s))))) (le_trans (mul-le-mul_right (10 ^ length (c ∷ s)) some) (grown n (c ∷ s) r g)))))

-- ---- one digit

digit_of_lem : (d : ℕ) → d < 10 → digit_of (digit d) ≡ d
unfolding digit_of
digit_of_lem d h =
    let e : 48 + d - 48 ≡ d = omega arith in
    rw (lt-ltb 47 (48 + d) (omega arith), lt-ltb (48 + d) 58 (omega arith)) e

took : (v b : ℕ) → digit_of b < 10 → with_digit 10 v b ≡ Some (10 * v + digit_of b)
unfolding with_digit
took v b h = rw (lt-ltb (digit_of b) 10 h) refl

-- ---- the decimal of a number is read as that number

pub spelt_decimal : (t n : ℕ) → n < t → spelt 10 0 (decimal n) ≡ Some n
unfolding spelt
spelt_decimal zero n h = absurd (not-suc-le-zero h)
spelt_decimal (suc t) n h =
    elim (dec_lt n 10) [
      | yes s ↦
          let d = digit_of_lem n s in
          let e : 10 * 0 + digit_of (digit n) ≡ n = omega arith in
          rw (small n s, took 0 (digit n) (omega arith)) (ap Some e)
      | no l ↦
          let big : 10 ≤ n = omega arith in
          let b = digit (n % 10) in
          let d = digit_of_lem (n % 10) (omega arith) in
          let e : 10 * (n / 10) + digit_of b ≡ n = omega arith in
          rw (large n big, spelt_append 10 0 (decimal (n / 10)) (b ∷ []), spelt_decimal t (n / 10) (omega arith), took (n / 10) b (omega arith)) (ap Some e)
    ]

-- it does not begin with 0, but for 0 itself: the other digits alone hold no such number
decimal_plain : (w : List ℕ) (n : ℕ) → decimal n ≡ w → plain w ≡ true
unfolding plain spelt with_digit digit_of
decimal_plain [] n e = absurd (omega (arith, some_digit n, ap length e))
decimal_plain (b ∷ []) n e = refl
decimal_plain (b ∷ c ∷ s) n e =
    rw (
      le-ltb (suc (suc (length s))) 2 (omega arith),
      ne_eqb b 48 (λ z.
          let v : spelt 10 0 (c ∷ s) ≡ Some n = ap (spelt 10 0) ((λ d. sym z d ∷ c ∷ s) ∙ sym e) ∙ spelt_decimal (suc n) n (omega arith) in
          let room = spelt_room 10 0 (c ∷ s) (10 ^ suc (length s)) n (lit≤ tt) (record { fits = le_of_eq (one-mul (10 ^ suc (length s))) }) v in
          omega (arith, ap length e, short (length s) n (omega (arith, room)))),
    ) refl

pub number_read : (n : ℕ) → n < 4294967296 → number_field (decimal n) ≡ Some n
unfolding number_field number_from
number_read n h =
    rw (lt-ltb (length (decimal n)) 11 (omega (arith, short10 n h)), decimal_plain (decimal n) n refl, spelt_decimal (suc n) n (omega arith), lt-ltb n 4294967296 h) refl

-- ---- and what is read as a number is its decimal

-- one digit behind a number that is not 0
behind : (v d : ℕ) → 0 < v → d < 10 → decimal (10 * v + d) ≡ decimal v ++ digit d ∷ []
behind v d h g =
    let tenth : (10 * v + d) / 10 ≡ v = omega arith in
    let last : (10 * v + d) % 10 ≡ d = omega arith in
    large (10 * v + d) (omega arith) ∙ (λ n. decimal (tenth n) ++ digit (last n) ∷ [])

onward : (v : ℕ) (s : List ℕ) (r : ℕ) → (1 ≤ length s → 0 < v) → spelt 10 v s ≡ Some r → decimal v ++ s ≡ decimal r
unfolding spelt
onward v [] r h e = append-nil (decimal v) ∙ ap decimal (same_Some v r e)
onward v (b ∷ s) r h e =
    option_and_then_some (λ (n : ℕ). spelt 10 n s) (with_digit 10 v b) r e (λ n f g.
    let some = h (omega arith) in
    let d = one_digit 10 v b n f in
    let one : decimal v ++ b ∷ [] ≡ decimal n = ap (λ (x : ℕ). decimal v ++ x ∷ []) (digit_is b d.0) ∙ (sym (behind v (digit_of b) some d.0) ∙ ap decimal (sym d.1)) in
    let rest = onward n s r (λ more. omega (arith, d.1)) g in
    sym (append_assoc (decimal v) (b ∷ []) s) ∙ (ap (λ (x : List ℕ). x ++ s) one ∙ rest))

leads : (b : ℕ) (s : List ℕ) → plain (b ∷ s) ≡ true → 1 ≤ length s → 0 < digit_of b
leads b [] p h = absurd (not-suc-le-zero h)
leads b (c ∷ s) p h = omega (arith, counts b (first b c s p))

spelt_is : (w : List ℕ) (r : ℕ) → plain w ≡ true → spelt 10 0 w ≡ Some r → w ≡ decimal r
unfolding spelt plain
spelt_is [] r p e = absurd (false≢true p)
spelt_is (b ∷ s) r p e =
    option_and_then_some (λ (n : ℕ). spelt 10 n s) (with_digit 10 0 b) r e (λ n f g.
    let d = one_digit 10 0 b n f in
    let is : b ≡ digit n = omega (arith, digit_is b d.0, d.1) in
    let rest = onward n s r (λ h. omega (arith, d.1, leads b s p h)) g in
    (λ d. is d ∷ s) ∙ (ap (λ (y : List ℕ). y ++ s) (sym (small n (omega (arith, d.0, d.1)))) ∙ rest))

number_from_is : (v n : ℕ) → number_from v ≡ Some n → v ≡ n
unfolding number_from
number_from_is v n e = go (ltb v 4294967296) e
  where
    go : (t : Bool) → pick t (Some v) None ≡ Some n → v ≡ n
    go true e = same_Some v n e
    go false e = absurd (none-some n e)

pub number_is : (w : List ℕ) (n : ℕ) → number_field w ≡ Some n → w ≡ decimal n
unfolding number_field
number_is w n e = go (ltb (length w) 11 && plain w) refl e
  where
    go : (t : Bool) → (ltb (length w) 11 && plain w) ≡ t → pick t (option_and_then number_from (spelt 10 0 w)) None ≡ Some n → w ≡ decimal n
    go true t e =
        option_and_then_some number_from (spelt 10 0 w) n e (λ v f g. spelt_is w n (both (ltb (length w) 11) (plain w) t).1 (f ∙ ap Some (number_from_is v n g)))
    go false t e = absurd (none-some n e)

-- ---- how many digits

-- k digits hold no number from 10^k on
pub digits_hold : (k n : ℕ) → length (decimal n) ≤ k → n < 10 ^ k
digits_hold zero n h = absurd (omega (arith, some_digit n))
digits_hold (suc k) n h =
    elim (dec_lt n 10) [
      | yes s ↦ omega (arith, one-le-pow k 10 (lit≤ tt))
      | no l ↦ let i = digits_hold k (n / 10) (omega (arith, longer n (omega arith))) in omega arith
    ]
