-- Digits one after the other: how they are read, and how large their number gets. Assumes nothing.
use mathlib.Core.Path.{◌≡◌, refl, sym, ap, ◌∙◌}
use mathlib.Core.Bool.{Bool, true, false, ◌&&◌}
use mathlib.Core.List.{List, [], ◌∷◌, ◌++◌}
use Prim.Native.Nat.{ℕ, suc, ◌+◌, ◌*◌, ◌^◌, ◌≤◌, ◌<◌}
use native.Mathlib.Nat.{le_trans, le_of_eq, mul_assoc, mul_comm, mul-one, mul-le-mul_left, mul-le-mul_right, pow-suc, one-le-pow}
use native.Mathlib.Numerals.{add-one}
use native.Mathlib.Omega.{arith}
use lib.Dec.{ltb, eqb}
use lib.ListN.{length, get_or, drop, drop_of_length-le}
use lib.Seq.{drop-cons}
use borrow.Author.Tests.{ltb-true}
use Rattle.std.specs.Prelude.{Option, Some, None, option_and_then, bytes_eq}
use Rattle.std.proofs.lemmas.Option.{none-some, same_Some, option_and_then_some}
use Rattle.reply.specs.Choice.{pick}
use Rattle.reply.proofs.Entries.{both}
use Rattle.ask_read.specs.Words.{digit_of, with_digit, spelt, same}

-- ---- tests

pub within : (low high b : ℕ) → (ltb low b && ltb b high) ≡ true → (low < b) × (b < high)
within low high b e = let r = both (ltb low b) (ltb b high) e in (ltb-true low b r.0, ltb-true b high r.1)

-- ---- how large the number gets

-- one digit more makes a number at most as many times larger as the base says
grows : (base v x : ℕ) → x < base → base * v + x + 1 ≤ (v + 1) * base
grows base v x h = omega (arith, mul_comm base v)

stays : (p n : ℕ) → 1 ≤ p → n ≤ n * p
stays p n h = le_trans (le_of_eq (sym (mul-one n))) (mul-le-mul_left n h)

-- a digit that is taken
pub one_digit : (base v b r : ℕ) → with_digit base v b ≡ Some r → (digit_of b < base) × (r ≡ base * v + digit_of b)
unfolding with_digit
one_digit base v b r e = go (ltb (digit_of b) base) refl e
  where
    go : (t : Bool) → ltb (digit_of b) base ≡ t → pick t (Some (base * v + digit_of b)) None ≡ Some r → (digit_of b < base) × (r ≡ base * v + digit_of b)
    go true f e = (ltb-true (digit_of b) base f, sym (same_Some (base * v + digit_of b) r e))
    go false f e = absurd (none-some r e)

pub digit_room : (base v b r : ℕ) → with_digit base v b ≡ Some r → r + 1 ≤ (v + 1) * base
digit_room base v b r e =
    let d = one_digit base v b r e in
    omega (arith, grows base v (digit_of b) d.0, d.1)

-- there is room for the bytes of s after the digits of v
pub record Room (base v : ℕ) (s : List ℕ) (top : ℕ) : Type 0 where
  pub fits : (v + 1) * base ^ length s ≤ top

-- n · base · p is n · (p · base)
order : (n base p : ℕ) → n * base * p ≡ n * (p * base)
order n base p = mul_assoc n base p ∙ ap (λ (x : ℕ). n * x) (mul_comm base p)

more : (base n b : ℕ) (s : List ℕ) (top : ℕ) → n * base ^ length (b ∷ s) ≤ top → n * base * base ^ length s ≤ top
more base n b s top r = le_trans (le_of_eq (order n base (base ^ length s) ∙ ap (λ (x : ℕ). n * x) (sym (pow-suc base (length s))))) r

pub room_next : (base v b n : ℕ) (s : List ℕ) (top : ℕ) → with_digit base v b ≡ Some n → Room base v (b ∷ s) top → Room base n s top
room_next base v b n s top e r =
    record {
      fits =
          le_trans (mul-le-mul_right (base ^ length s) (digit_room base v b n e))
          (more base (v + 1) b s top r.fits);
    }

pub room_one : (base v b : ℕ) (s : List ℕ) (top : ℕ) → 1 ≤ base → Room base v (b ∷ s) top → (v + 1) * base ≤ top
room_one base v b s top h r =
    le_trans (stays (base ^ length s) ((v + 1) * base) (one-le-pow (length s) base h)) (more base (v + 1) b s top r.fits)

pub spelt_room : (base v : ℕ) (s : List ℕ) (top r : ℕ) → 1 ≤ base → Room base v s top → spelt base v s ≡ Some r → r + 1 ≤ top
unfolding spelt
spelt_room base v [] top r h m e =
    let is = same_Some v r e in
    le_trans (stays (base ^ 0) (r + 1) (one-le-pow 0 base h)) (rw is at m.fits)
spelt_room base v (b ∷ s) top r h m e =
    option_and_then_some (λ (n : ℕ). spelt base n s) (with_digit base v b) r e (λ n f g. spelt_room base n s top r h (room_next base v b n s top f m) g)

-- ---- byte after byte

pub spelt_append : (base v : ℕ) (s t : List ℕ) → spelt base v (s ++ t) ≡ option_and_then (λ n. spelt base n t) (spelt base v s)
unfolding spelt
spelt_append base v [] t = refl
spelt_append base v (b ∷ s) t = go (with_digit base v b) (λ n. spelt_append base n s t)
  where
    go : (o : Option ℕ) → ((n : ℕ) → spelt base n (s ++ t) ≡ option_and_then (λ n. spelt base n t) (spelt base n s)) → option_and_then (λ n. spelt base n (s ++ t)) o ≡ option_and_then (λ n. spelt base n t) (option_and_then (λ n. spelt base n s) o)
    go None f = refl
    go (Some n) f = f n

module _ (base : ℕ) (s : List ℕ) (i v : ℕ) (h : i < length s) where
  pub at_hand : (top : ℕ) → 1 ≤ base → Room base v (drop i s) top → (v + 1) * base ≤ top
  at_hand top p r = room_one base v (get_or s i 0) (drop (suc i) s) top p (rw (drop-cons s i 0 h) at r)

  pub room_after : (n top : ℕ) → with_digit base v (get_or s i 0) ≡ Some n → Room base v (drop i s) top → Room base n (drop (i + 1) s) top
  room_after n top e m = rw (add-one i) (room_next base v (get_or s i 0) n (drop (suc i) s) top e (rw (drop-cons s i 0 h) at m))

  pub spelt_after : (n : ℕ) (z : Option ℕ) → with_digit base v (get_or s i 0) ≡ Some n → spelt base v (drop i s) ≡ z → spelt base n (drop (i + 1) s) ≡ z
  unfolding spelt
  spelt_after n z e m = rw (add-one i) (rw (drop-cons s i 0 h, e) at m)

  pub spoilt : (z : Option ℕ) → with_digit base v (get_or s i 0) ≡ None → spelt base v (drop i s) ≡ z → None ≡ z
  unfolding spelt
  spoilt z e m = rw (drop-cons s i 0 h, e) at m

pub spelt_end : (base : ℕ) (s : List ℕ) (i v : ℕ) (z : Option ℕ) → length s ≤ i → spelt base v (drop i s) ≡ z → Some v ≡ z
unfolding spelt
spelt_end base s i v z h m = rw (drop_of_length-le s h) at m

-- ---- two words byte by byte

pub compared : (s t : List ℕ) → bytes_eq s t ≡ same s t
unfolding same
compared [] [] = refl
compared [] (b ∷ t) = refl
compared (a ∷ s) [] = refl
compared (a ∷ s) (b ∷ t) = ap (λ (x : Bool). eqb a b && x) (compared s t)
