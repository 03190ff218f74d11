-- A leftover is a number below 1 in size, so that its 2^51sts can be counted, and every way towards a neighbour is a double. Assumes nothing.
use Rattle.reply.specs.Replies.{fine}
use Rattle.std.proofs.Common.{◌≡◌, ℕ, ◌+◌, ◌*◌, ◌^◌, ◌<◌, ◌≤◌, max, Bool, true, false, not, ◌&&◌, T, pos, ◌-ℤ◌, refl, ap, ◌∙◌, arith, lit≤, le→leb, ltb→lt, lt→ltb, nltb→le}
use mathlib.Core.Bool.{false≢true}
use borrow.Author.Tests.{not-false}
use lib.Ieee.{Float, nan, inf, fin, binary64, of_bits, up, down, round, sub, mul, lt, le, of_int, in_float}
use lib.Ieee.Fits.{down_pos}
use lib.Ieee.Positive.{num, den}
use Rattle.reply.specs.declared.Refusal.TheVariants.{BadRange}
use Rattle.reply.proofs.Entries.{passed, both}
use Rattle.double.specs.Double.{finite, nought, one, size_of}
use Rattle.double.specs.Sizes.{Upto}
use Rattle.double.proofs.Nonnegative.{signed, size_upto, product_upto, whole_le}
use Rattle.double.proofs.Tests.{holds, fails, lt_not_le}
use Rattle.vec2d.specs.declared.Leftovers.{Leftovers}
use Rattle.vec2d.specs.declared.Steps.{Steps}
use Rattle.vec2d.proofs.Whole.{sub_ints}
use Rattle.margin.specs.Margins.{is_leftover, margin_verdict, unit, parts_of, gap_of, step_of, reach_in}

-- What is at least 0 and below 1 is a number, and its size, as a fraction, is below 1.
pub below_one : (r : Float) → is_leftover r ≡ true → (finite r ≡ true) × (num r < den r)
unfolding is_leftover le lt of_bits
below_one r h = let b = both (le nought r) (lt r one) h in go r b.0 b.1
  where
    go : (r : Float) → le nought r ≡ true → lt r one ≡ true → (finite r ≡ true) × (num r < den r)
    go nan p q = absurd (false≢true q)
    go (inf true) p q = absurd (false≢true p)
    go (inf false) p q = absurd (false≢true q)
    go (fin true m e) p q =
        let none : m * up e * 1 + 0 * down e ≤ 0 = nltb→le 0 (m * up e * 1 + 0 * down e) (fails (lt_not_le (fin true m e) nought refl refl ∙ ap not p)) in
        let d = down_pos e in
        (refl, omega arith)
    go (fin false m e) p q =
        let l : m * up e * 1 < 1 * 1 * down e = ltb→lt _ _ (holds q) in
        (refl, omega arith)

-- So its size is from 0 to 1.
pub leftover_upto : (r : Float) → is_leftover r ≡ true → Upto 1 (size_of r)
leftover_upto r h = let b = below_one r h in size_upto 1 r (record { number = b.0; size = omega (arith, b.1) })

-- Where a margin is answered, both leftovers have passed.
pub taken : (l : Leftovers) → margin_verdict l ≡ fine → (is_leftover l.r1 ≡ true) × (is_leftover l.r2 ≡ true)
taken l e = both (is_leftover l.r1) (is_leftover l.r2) (not-false _ (passed (not (is_leftover l.r1 && is_leftover l.r2)) BadRange fine e).0)

unit_upto : Upto (2 ^ 51) unit
unfolding of_bits
unit_upto = record { under = record { number = refl; size = lit≤ tt }; plus = refl }

pub parts_upto : (r : Float) → Upto 1 r → Upto (2 ^ 51) (mul binary64 r unit)
unfolding of_bits
parts_upto r p = product_upto 1 (2 ^ 51) (2 ^ 51) r unit p unit_upto (lit≤ tt) (lit≤ tt)

-- A number from 0 to 1 has at most 2^51 parts.
pub parts_low : (r : Float) → Upto 1 r → parts_of r ≤ 2 ^ 51
unfolding parts_of
parts_low r p = whole_le (2 ^ 51) _ (parts_upto r p)

-- A number from 0 to 2^51 has a whole part that fits 64 bits.
pub in_range : (x : Float) → Upto (2 ^ 51) x → T (lt (fin true 1 (pos 0)) x) × T (lt x (fin false 1 (pos 64)))
unfolding lt
in_range nan p = absurd (false≢true p.under.number)
in_range (inf s) p = absurd (false≢true p.under.number)
in_range (fin true m e) p = signed m e p.plus
in_range (fin false m e) p =
    let d = down_pos e in
    let h = p.under.size in
    let above : 0 < 1 * 1 * down e + m * up e * 1 = omega arith in
    let below : m * up e * 1 < 1 * 2 ^ 64 * down e = omega arith in
    (lt→ltb 0 (1 * 1 * down e + m * up e * 1) above, lt→ltb (m * up e * 1) (1 * 2 ^ 64 * down e) below)

-- A number up to 3 · 2^51 is a double.
pub whole_double : (n : ℕ) → n ≤ 3 * 2 ^ 51 → T (in_float binary64 (pos n))
unfolding in_float
whole_double n h = le→leb n (2 ^ 53) (omega arith)

unit_is : unit ≡ of_int binary64 (pos (2 ^ 51))
unfolding of_bits of_int round
unit_is = refl

-- Taken from 2^51 as doubles it gives the double of the difference.
pub taken_off : (n : ℕ) → n ≤ 3 * 2 ^ 51 → sub binary64 unit (of_int binary64 (pos n)) ≡ of_int binary64 (pos (2 ^ 51) -ℤ pos n)
taken_off n h = ap (λ (x : Float). sub binary64 x (of_int binary64 (pos n))) unit_is ∙ sub_ints (2 ^ 51) n (lit≤ tt) (omega arith)

-- No way towards a neighbour is longer than three steps.
gap_low : (a b n : ℕ) → a ≤ n → b ≤ n → gap_of a b ≤ n
gap_low a b n p q = omega arith

pub longest : (a b c n : ℕ) → a ≤ n → b ≤ n → c ≤ n → max a (max b c) ≤ n
longest a b c n p q r = omega arith

step_low : (up : Bool) → step_of (2 ^ 51) up ≤ 2 ^ 51
step_low true = lit≤ tt
step_low false = lit≤ tt

pub reach_fits : (m n : ℕ) (s : Steps) → m ≤ 2 ^ 51 → n ≤ 2 ^ 51 → reach_in (2 ^ 51) m n s ≤ 3 * 2 ^ 51
unfolding reach_in
reach_fits m n s p q = go (step_of (2 ^ 51) s.i) (step_of (2 ^ 51) s.j) (step_low s.i) (step_low s.j)
  where
    go : (i j : ℕ) → i ≤ 2 ^ 51 → j ≤ 2 ^ 51 → max (gap_of (2 * m + j) (n + 2 * i)) (max (gap_of (2 * n + i) (m + 2 * j)) (gap_of (m + n) (i + j))) ≤ 3 * 2 ^ 51
    go i j f g =
        longest (gap_of (2 * m + j) (n + 2 * i)) (gap_of (2 * n + i) (m + 2 * j)) (gap_of (m + n) (i + j)) (3 * 2 ^ 51) (gap_low (2 * m + j) (n + 2 * i) (3 * 2 ^ 51) (omega arith) (omega arith))
        (gap_low (2 * n + i) (m + 2 * j) (3 * 2 ^ 51) (omega arith) (omega arith)) (gap_low (m + n) (i + j) (3 * 2 ^ 51) (omega arith) (omega arith))
