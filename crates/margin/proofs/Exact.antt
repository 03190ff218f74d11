-- A margin is exactly the whole number of 2^52nds that its definition names: nothing is rounded. Assumes nothing.
use Rattle.reply.specs.Replies.{fine}
use Rattle.std.proofs.Common.{◌≡◌, ℕ, suc, ◌+◌, ◌*◌, ◌^◌, ◌<◌, ◌≤◌, Bool, true, false, ℤ, pos, negsuc, ◌-ℤ◌, nat_abs, sym, refl, lt_of_lt_of_le, mul_assoc, arith, lit<, lit≤, shl_lt}
use lib.Ieee.{Float, nan, inf, fin, binary64, up, down, unlike, of_bits, of_int, round, div}
use lib.Ieee.Fits.{down_pos}
use lib.Ieee.Exact.{HasValue, round_exact}
use lib.Ieee.Back.{round_whole}
use lib.Ieee.Scale.{round_same}
use Rattle.coordijk.proofs.Differences.{View, view, diff_pos, diff_neg}
use Rattle.double.specs.Double.{size_of}
use Rattle.vec2d.specs.declared.Leftovers.{Leftovers}
use Rattle.vec2d.specs.Rounding.{steps_of}
use Rattle.margin.specs.Margins.{two_units, parts_of, reach_of, margin_in, margin_of, margin_verdict}
use Rattle.margin.proofs.Counting.{leftover_upto, parts_low, taken, reach_fits}

part : (s : Bool) (n : ℕ) → n < 2 ^ 53 → HasValue (round binary64 s n (2 ^ 52)) s n (2 ^ 52)
part s n h =
    let room : 2 ^ (53 + 1022) ≤ 2 ^ 2098 = lit≤ tt in
    round_exact binary64 s n (2 ^ 52) n 1022 (lit< tt) h (lt_of_lt_of_le (shl_lt 53 1022 h) room) (sym (mul_assoc n (2 ^ 1022) (2 ^ 52)))

plain : (s : Bool) → unlike s false ≡ s
plain true = refl
plain false = refl

-- a whole number, as a double, over 2^52
quotient : (x : Float) (s : Bool) (n : ℕ) → HasValue x s n 1 → n < 2 ^ 53 → HasValue (div binary64 x two_units) s n (2 ^ 52)
unfolding div of_bits
quotient nan s n v h = absurd v
quotient (inf t) s n v h = absurd v
quotient (fin t m e) s n v h =
    rw (v.0, plain s, round_same binary64 s (m * up e * 1) (1 * 2 ^ 52 * down e) n (2 ^ 52) (omega (arith, down_pos e)) (lit< tt) (omega (arith, v.1))) (part s n h)

-- x is z 2^52nds
abbrev pub Counts : Float → ℤ → Type 0
Counts x (pos n) = HasValue x false n (2 ^ 52)
Counts x (negsuc n) = HasValue x true (suc n) (2 ^ 52)

counted : (z : ℤ) → nat_abs z < 2 ^ 53 → Counts (div binary64 (of_int binary64 z) two_units) z
unfolding of_int
counted (pos n) h = quotient (round binary64 false n 1) false n (round_whole binary64 false n (omega arith)) h
counted (negsuc n) h = quotient (round binary64 true (suc n) 1) true (suc n) (round_whole binary64 true (suc n) (omega arith)) h

-- What is answered is exactly the margin of the definition.
pub margin_counts : (l : Leftovers) → margin_verdict l ≡ fine → Counts (margin_of l) (margin_in l)
unfolding margin_of
margin_counts l e =
    let p = taken l e in
    let low = reach_fits (parts_of (size_of l.r1)) (parts_of (size_of l.r2)) (steps_of (size_of l.r1) (size_of l.r2))
    (parts_low (size_of l.r1) (leftover_upto l.r1 p.0)) (parts_low (size_of l.r2) (leftover_upto l.r2 p.1)) in
    counted (margin_in l) (small (reach_of l) low)
  where
    small : (r : ℕ) → r ≤ 3 * 2 ^ 51 → nat_abs (pos (2 ^ 51) -ℤ pos r) < 2 ^ 53
    small r h = go (view (2 ^ 51) r)
      where
        go : View (2 ^ 51) r → nat_abs (pos (2 ^ 51) -ℤ pos r) < 2 ^ 53
        go (View.up k c) = rw (diff_pos (2 ^ 51) r k c) (omega arith)
        go (View.down k c) = rw (diff_neg (2 ^ 51) r k c) (omega arith)
