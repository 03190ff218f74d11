-- The parts of a decimal, and the room for its digits. Assumes nothing.
use mathlib.Core.Path.{◌≡◌, refl, sym, ap, ◌∙◌}
use mathlib.Core.Bool.{Bool, true, false, not, ◌&&◌}
use mathlib.Core.List.{List, [], ◌∷◌}
use Prim.Native.Nat.{ℕ, ◌+◌, ◌-◌, ◌^◌, ◌≤◌, ◌<◌}
use native.Mathlib.Nat.{zero-add, le_trans, le_of_eq, one-mul, mul-le-mul_right, pow-le-pow_right}
use native.Mathlib.Decide.{dec_lt}
use native.Mathlib.Omega.{arith}
use lib.Dec.{T, ltb, eqb, lit<, lit≤, le→leb}
use lib.IntN.{pos}
use lib.Pow.{pow-add}
use lib.ListN.{length, get_or, take, drop, length-take, length-drop, drop_of_length-le}
use lib.Seq.{take-length}
use borrow.Author.Tests.{ltb-true, eqb-true, eq-eqb}
use borrow.Author.Rules.{part_to_end}
use lib.Ieee.{binary64, of_int, div, in_float}
use Rattle.reply.specs.Choice.{pick}
use Rattle.ask_read.specs.Scan.{index_of, slice}
use Rattle.std.specs.Prelude.{Some, None, option_map, option_and_then, bytes_eq}
use Rattle.std.specs.List.{starts_with}
use Rattle.ask_read.specs.Words.{spelt, plain, decimal_from, unsigned_field}
use Rattle.reply.proofs.Entries.{both}
use Rattle.ask_read.proofs.Spelling.{Room, spelt_room, spelt_append}
use Rattle.ask_read.proofs.Rounded.{once}

-- ---- room

pub widen : {base v : ℕ} {s : List ℕ} {t u : ℕ} → Room base v s t → t ≤ u → Room base v s u
widen r h = record { fits = le_trans r.fits h }

-- digits from the start on need as many tens as they are
pub from_none : (base : ℕ) (s : List ℕ) → Room base 0 s (base ^ length s)
from_none base s = record { fits = le_of_eq (one-mul (base ^ length s)) }

pub at_most : (base : ℕ) (s : List ℕ) (n : ℕ) → 1 ≤ base → length s ≤ n → Room base 0 s (base ^ n)
at_most base s n h k = widen (from_none base s) (pow-le-pow_right h k)

pub two_parts : (s t : List ℕ) (v : ℕ) → spelt 10 0 s ≡ Some v → length s + length t ≤ 15 → Room 10 v t (10 ^ 15)
two_parts s t v e h =
    record {
      fits =
          le_trans (mul-le-mul_right (10 ^ length t) (spelt_room 10 0 s (10 ^ length s) v (lit≤ tt) (from_none 10 s) e))
          (le_trans (le_of_eq (sym (pow-add 10 (length s) (length t)))) (pow-le-pow_right (lit< tt) h));
    }

pub digits_small : (s t : List ℕ) (v r : ℕ) → spelt 10 0 s ≡ Some v → spelt 10 v t ≡ Some r → length s + length t ≤ 15 → r < 10 ^ 15
digits_small s t v r e f h = omega (arith, spelt_room 10 v t (10 ^ 15) r (lit≤ tt) (two_parts s t v e h) f)

-- ---- the parts

pub found : (w : List ℕ) (p : ℕ) → p ≡ 0 + index_of 46 (slice 0 (length w) w) → p ≡ index_of 46 w
found w p e = e ∙ (zero-add (index_of 46 (take (length w) w)) ∙ ap (index_of 46) (take-length w))

-- a point at p, or none and p at the end, and the digits after it from f on
pub record Parts (w : List ℕ) (p f : ℕ) : Type 0 where
  pub point : p ≡ index_of 46 w
  pub inside : p ≤ length w
  pub next : p < length w → f ≡ p + 1
  pub low : p ≤ f
  pub high : f ≤ length w

module _ (w : List ℕ) (p f : ℕ) (s : Parts w p f) where
  pub whole_length : length (take p w) ≡ p
  whole_length = omega (arith, length-take p w, s.inside)

  pub rest_length : length (drop (p + 1) w) ≡ length w - f
  rest_length =
      elim (dec_lt p (length w)) [
        | yes q ↦ omega (arith, length-drop (p + 1) w, s.next q)
        | no q ↦ omega (arith, length-drop (p + 1) w, s.low, s.high)
      ]

  pub rest_is : take (length w - f) (drop f w) ≡ drop (p + 1) w
  rest_is =
      part_to_end w f ∙
      elim (dec_lt p (length w)) [
        | yes q ↦ ap (λ (k : ℕ). drop k w) (s.next q)
        | no q ↦ drop_of_length-le w {i = f} (omega (arith, s.low)) ∙ sym (drop_of_length-le w {i = p + 1} (omega arith))
      ]

  pub part_length : length (take (length w - f) (drop f w)) ≡ length w - f
  part_length = ap length rest_is ∙ rest_length

  abbrev pub test : Bool
  test = plain (take p w) && not (eqb (p + 1) (length w)) && ltb (p + (length w - f)) 16

  pub short : test ≡ true → length (take p w) + length (take (length w - f) (drop f w)) ≤ 15
  short t =
      omega (arith, whole_length, part_length, ltb-true (p + (length w - f)) 16 (both (plain (take p w) && not (eqb (p + 1) (length w))) (ltb (p + (length w - f)) 16) t).1)

  pub unsigned_is : pick test (option_map (λ n. decimal_from n (length w - f)) (option_and_then (λ n. spelt 10 n (take (length w - f) (drop f w))) (spelt 10 0 (take p w)))) None ≡ unsigned_field w
  unfolding unsigned_field
  unsigned_is = rw (← s.point, whole_length, rest_length, rest_is, ← (spelt_append 10 0 (take p w) (drop (p + 1) w)))

-- ---- a quotient

pub power_number : (k t : ℕ) → k ≤ 15 → t ≡ 10 ^ k → T (in_float binary64 (pos t))
unfolding in_float
power_number k t h e = le→leb t (2 ^ 53) (le_trans (le_of_eq e) (le_trans (pow-le-pow_right (lit< tt) h) (lit≤ tt)))

pub taken : (n k t : ℕ) → n < 10 ^ 15 → k ≤ 15 → t ≡ 10 ^ k → div binary64 (of_int binary64 (pos n)) (of_int binary64 (pos t)) ≡ decimal_from n k
unfolding decimal_from
taken n k t h g e = rw e (once n k h g)

-- ---- a minus

turned : (a b : ℕ) → eqb a b ≡ eqb b a
turned a b = go (eqb a b) (eqb b a) refl refl
  where
    go : (t u : Bool) → eqb a b ≡ t → eqb b a ≡ u → t ≡ u
    go true true e f = refl
    go true false e f = sym (eq-eqb b a (sym (eqb-true a b e))) ∙ f
    go false true e f = sym e ∙ eq-eqb a b (sym (eqb-true b a f))
    go false false e f = refl

-- a word that begins with a minus
pub begun : (w : List ℕ) → starts_with eqb w (45 ∷ []) ≡ eqb (get_or w 0 0) 45
begun [] = refl
begun (b ∷ w) = go (eqb 45 b) refl
  where
    go : (t : Bool) → eqb 45 b ≡ t → (t && bytes_eq [] (take 0 w)) ≡ eqb b 45
    go true e = sym (turned b 45 ∙ e)
    go false e = sym (turned b 45 ∙ e)
