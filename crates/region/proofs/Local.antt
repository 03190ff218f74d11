-- The quick question looks at the trailer and at the records between its two starts, and at no other byte. Assumes nothing.
use mathlib.Core.Path.{◌≡◌, refl, ap, ◌∙◌}
use mathlib.Core.Bool.{Bool, true, false, ◌&&◌}
use mathlib.Core.List.{List, [], ◌∷◌}
use Prim.Native.Nat.{ℕ, ◌+◌, ◌-◌, ◌*◌, ◌≤◌, ◌<◌}
use native.Mathlib.Omega.{arith}
use lib.Dec.{ltb}
use lib.ListN.{length, get_or}
use borrow.Author.Tests.{ltb-true}
use Rattle.std.specs.Prelude.{Ok, Err}
use Rattle.reply.specs.declared.Refusal.TheVariants.{BadList}
use Rattle.reply.specs.Replies.{when, reply, first, Verdict, fine, bit}
use Rattle.words.specs.Words.{word_at}
use Rattle.faceijk.specs.declared.Place.{Place}
use Rattle.faceijk.specs.Places.{same_place, place_reasons}
use Rattle.region.specs.Places.{before}
use Rattle.region.specs.Lists.{tail, record_at, start_of, end_of, count_of, wrong_length, bad_span}
use Rattle.region.specs.Entries.{stands_at, sought_in, bad_for, has_verdict, has_reply}
use Rattle.region.proofs.Halving.{from_low, same_end}
use Rattle.region.proofs.Reading.{asked}

-- two lists of one length that agree in the trailer and, if there is such a face, in its records
pub record Agree (s t : List ℕ) (f : ℕ) : Type 0 where
  pub one_length : length s ≡ length t
  pub trailer : (n : ℕ) → tail s ≤ n → get_or s n 0 ≡ get_or t n 0
  pub records : (n : ℕ) → f < 20 → 16 * start_of s f ≤ n → n < 16 * end_of s f → get_or s n 0 ≡ get_or t n 0

stands_from : (s : List ℕ) (p : Place) → start_of s p.face ≤ stands_at s p
unfolding stands_at
stands_from s p = from_low (λ n. before (record_at s n) p) (end_of s p.face - start_of s p.face) (start_of s p.face) (end_of s p.face)

module _ (s t : List ℕ) (p : Place) (a : Agree s t p.face) where
  -- a number whose four bytes agree is one
  one_word : (n : ℕ) → ((m : ℕ) → n ≤ m → m < n + 4 → get_or s m 0 ≡ get_or t m 0) → word_at s n ≡ word_at t n
  unfolding word_at
  one_word n h = rw (h n (omega arith) (omega arith), h (n + 1) (omega arith) (omega arith), h (n + 2) (omega arith) (omega arith), h (n + 3) (omega arith) (omega arith))

  in_trailer : (b : ℕ) → word_at s (tail s + b) ≡ word_at t (tail t + b)
  in_trailer b =
      one_word (tail s + b) (λ m l u. a.trailer m (omega arith))
      ∙ ap (λ (n : ℕ). word_at t (n - 88 + b)) a.one_length

  one_count : count_of s ≡ count_of t
  unfolding count_of
  one_count = in_trailer 84

  one_start : (f : ℕ) → start_of s f ≡ start_of t f
  unfolding start_of
  one_start f = in_trailer (4 * f)

  one_end : (f : ℕ) → end_of s f ≡ end_of t f
  unfolding end_of
  one_end f = rw (one_count, one_start (f + 1))

  one_record : (n : ℕ) → p.face < 20 → start_of s p.face ≤ n → n < end_of s p.face → record_at s n ≡ record_at t n
  unfolding record_at
  one_record n on from to =
      let word : (b : ℕ) → b ≤ 12 → word_at s (16 * n + b) ≡ word_at t (16 * n + b) = λ b h. one_word (16 * n + b) (λ m l u. a.records m on (omega arith) (omega arith)) in
      let none : 16 * n + 0 ≡ 16 * n = omega arith in
      let f : word_at s (16 * n) ≡ word_at t (16 * n) = rw none at (word 0 (omega arith)) in
      let i = word 4 (omega arith) in
      let j = word 8 (omega arith) in
      let k = word 12 (omega arith) in
      λ x. record { face = f x; i = i x; j = j x; k = k x }

  one_length_test : wrong_length s ≡ wrong_length t
  unfolding wrong_length
  one_length_test = rw (one_count, a.one_length)

  one_tested : bad_for s p.face ≡ bad_for t p.face
  unfolding bad_span
  one_tested = rw (one_length_test, one_end p.face, one_start p.face, one_count)

  module _ (on : p.face < 20) where
    one_stand : stands_at s p ≡ stands_at t p
    unfolding stands_at
    one_stand =
        same_end (λ n. before (record_at s n) p) (λ n. before (record_at t n) p) (end_of s p.face - start_of s p.face) (start_of s p.face) (end_of s p.face)
        (λ n from to. ap (λ (r : Place). before r p) (one_record n on from to))
        ∙ rw (one_end p.face, one_start p.face)

    one_sought : sought_in s p ≡ sought_in t p
    unfolding sought_in
    one_sought =
        go (ltb (stands_at s p) (end_of s p.face)) refl
        ∙ (λ x. ltb (one_stand x) (one_end p.face x) && same_place (record_at t (one_stand x)) p)
      where
        go : (b : Bool) → ltb (stands_at s p) (end_of s p.face) ≡ b → (b && same_place (record_at s (stands_at s p)) p) ≡ (b && same_place (record_at t (stands_at s p)) p)
        go true e = ap (λ (r : Place). same_place r p) (one_record (stands_at s p) on (stands_from s p) (ltb-true (stands_at s p) (end_of s p.face) e))
        go false e = refl

  -- Two lists of one length that agree in the trailer and between the two starts get the same answer about a place.
  pub local : has_reply s p ≡ has_reply t p
  local =
      go (has_verdict s p) refl
      ∙ ap (λ (bad : Bool). reply 1 (first (when bad BadList ∷ place_reasons p)) (bit (sought_in t p) ∷ [])) one_tested
    where
      go : (v : Verdict) → has_verdict s p ≡ v → reply 1 v (bit (sought_in s p) ∷ []) ≡ reply 1 v (bit (sought_in t p) ∷ [])
      go (Ok _) e = ap (λ (b : Bool). reply 1 fine (bit b ∷ [])) (one_sought (asked s p e).on)
      go (Err r) e = refl
