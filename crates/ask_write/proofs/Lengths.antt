-- How many of the values are printed. Assumes nothing.
use mathlib.Core.Path.{◌≡◌, refl}
use mathlib.Core.List.{List, [], ◌∷◌, ◌++◌}
use Prim.Native.Nat.{ℕ, suc, ◌+◌, ◌-◌, ◌*◌, ◌/◌, ◌≤◌, ◌<◌, min}
use native.Mathlib.Nat.{mul-le-mul_right}
use native.Mathlib.Omega.{arith}
use lib.ListN.{length, get_or}
use borrow.Author.Tests.{lt-ltb, le-ltb}
use Rattle.text.specs.Numbers.{newline}
use Rattle.ask_text.specs.Texts.{field_text}
use Rattle.ask_write.specs.Texts.{text_to, shown_of, values_text}

-- one value more
pub text_more : (kinds vs : List ℕ) (k : ℕ) → text_to kinds vs (suc k) ≡ text_to kinds vs k ++ field_text k (get_or kinds k 0) (get_or vs k 0)
unfolding text_to
text_more kinds vs k = refl

-- a line has those that are shown, and a newline
pub line_of : (kinds vs : List ℕ) → 1 ≤ length kinds → values_text kinds vs ≡ text_to kinds vs (shown_of (length kinds) (get_or vs 0 0)) ++ newline ∷ []
unfolding values_text
line_of [] vs some = absurd (omega arith)
line_of (k ∷ ks) vs some = refl

-- all values of an answer that is no border
pub all_few : (n count : ℕ) → n < 49 → n ≡ shown_of n count
unfolding shown_of
all_few n count h = rw (lt-ltb n 49 h)

-- of a border the points that its count says, and all where it says more than there are
module _ (n count : ℕ) (border : 49 ≤ n) where
  abbrev counted : ℕ
  counted = 1 + (n - 1) / 12 * count

  pub as_counted : (r : ℕ) → r ≡ min n counted → r ≡ shown_of n count
  unfolding shown_of
  as_counted r e = rw (le-ltb n 49 border) e

  pub all_shown : n ≤ counted → n ≡ shown_of n count
  all_shown h = as_counted n (omega arith)

  -- a point has a value at least, and no more than five
  pub past_all : n ≤ count → n ≤ counted
  past_all h =
      let each : 1 ≤ (n - 1) / 12 = omega arith in
      let m = mul-le-mul_right count each in
      omega arith

  pub few_values : n ≤ 61 → (n - 1) / 12 * count ≤ 5 * count
  few_values h = let each : (n - 1) / 12 ≤ 5 = omega arith in mul-le-mul_right count each
