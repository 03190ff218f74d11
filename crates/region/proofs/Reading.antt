-- What the tests of a list leave known. Assumes nothing.
use mathlib.Core.Path.{◌≡◌, refl, sym, ap}
use mathlib.Core.Bool.{Bool, true, false, not, ◌||◌, ◌&&◌}
use mathlib.Core.List.{List, [], ◌∷◌}
use Prim.Native.Nat.{ℕ, ◌+◌, ◌-◌, ◌*◌, ◌≤◌, ◌<◌}
use native.Mathlib.Omega.{arith}
use lib.Dec.{ltb, eqb}
use lib.ListN.{length}
use borrow.Author.Tests.{ltb-false, eqb-true, not-false, le-ltb}
use Rattle.reply.specs.declared.Refusal.TheVariants.{BadList, BadFace, NotReduced}
use Rattle.reply.specs.Replies.{number_of, when, first, answer, reply, fine, bit}
use Rattle.reply.proofs.Entries.{neither, passed, answers}
use Rattle.faceijk.specs.declared.Place.{Place}
use Rattle.coordijk.specs.Coordinates.{not_reduced}
use Rattle.faceijk.specs.Places.{bad_face, coord_of, place_verdict}
use Rattle.region.specs.Lists.{record_at, start_of, end_of, count_of, wrong_length, bad_span}
use Rattle.region.specs.Places.{before}
use Rattle.region.specs.Entries.{halved, stands_at, bad_for, sought_in, has_verdict, has_reply}
use Rattle.region.proofs.Halving.{few_turns}

-- a list whose length was tested
pub record Long (s : List ℕ) : Type 0 where
  pub fits : length s ≡ 88 + 16 * count_of s
  pub few : count_of s ≤ 2147483647

pub long : (s : List ℕ) → wrong_length s ≡ false → Long s
unfolding wrong_length
long s e =
    let a = neither (ltb (length s) 88 || ltb 2147483647 (count_of s)) (not (eqb (length s) (88 + 16 * count_of s))) e in
    let b = neither (ltb (length s) 88) (ltb 2147483647 (count_of s)) a.0 in
    record {
      fits = eqb-true (length s) (88 + 16 * count_of s) (not-false (eqb (length s) (88 + 16 * count_of s)) a.1);
      few = ltb-false 2147483647 (count_of s) b.1;
    }

-- the two starts that are read stand in order, and not past the count
pub record Spanned (s : List ℕ) (f : ℕ) : Type 0 where
  pub is_long : Long s
  pub ordered : start_of s f ≤ end_of s f
  pub within : end_of s f ≤ count_of s

pub spanned : (s : List ℕ) (f : ℕ) → f < 20 → bad_for s f ≡ false → Spanned s f
unfolding bad_span
spanned s f h e =
    let a = neither (wrong_length s) (not (bad_face f) && bad_span s f) e in
    let b : bad_span s f ≡ false = rw (le-ltb 19 f (omega arith)) at a.1 in
    let d = neither (ltb (end_of s f) (start_of s f)) (ltb (count_of s) (end_of s f)) b in
    record { is_long = long s a.0; ordered = ltb-false _ _ d.0; within = ltb-false _ _ d.1 }

-- what a question whose tests find nothing knows
pub record Asked (s : List ℕ) (p : Place) : Type 0 where
  pub tested : bad_for s p.face ≡ false
  pub on : p.face < 20
  pub fine : place_verdict p ≡ fine

pub asked : (s : List ℕ) (p : Place) → has_verdict s p ≡ fine → Asked s p
asked s p e =
    let a = passed (bad_for s p.face) BadList _ e in
    let b = ltb-false 19 p.face (passed (bad_face p.face) BadFace _ a.1).0 in
    record { tested = a.0; on = omega arith; fine = a.1 }

-- an answer by its bit
pub told : (s : List ℕ) (p : Place) (b : Bool) → has_verdict s p ≡ fine → b ≡ sought_in s p → answer (bit b ∷ []) ≡ has_reply s p
told s p b f e = answers 1 (has_verdict s p) _ _ f (ap (λ (x : Bool). answer (bit x ∷ [])) e)

-- The search in a list that is asked takes at most 31 turns, since it has at most 2^31 - 1 records.
pub few_turns_in : (s : List ℕ) (p : Place) → Spanned s p.face
    → stands_at s p ≡ halved (λ n. before (record_at s n) p) 31 (start_of s p.face) (end_of s p.face)
unfolding stands_at
few_turns_in s p k =
    sym
    (few_turns (λ n. before (record_at s n) p) 31 (end_of s p.face - start_of s p.face) (start_of s p.face) (end_of s p.face)
    (omega (arith, k.within, k.is_long.few)) (omega (arith, k.ordered)))

-- "BadList exactly if the length is wrong or the two starts it reads are out of order or past the count", both ways.
pub bad_list : (s : List ℕ) (p : Place) → bad_for s p.face ≡ true → (has_reply s p).number ≡ number_of BadList
bad_list s p e = rw e

pub only_bad_list : (s : List ℕ) (p : Place) → (has_reply s p).number ≡ number_of BadList → bad_for s p.face ≡ true
only_bad_list s p h = go (bad_for s p.face) (bad_face p.face) (not_reduced (coord_of p)) h
  where
    go : (bad x y : Bool) → (reply 1 (first (when bad BadList ∷ when x BadFace ∷ when y NotReduced ∷ [])) (bit (sought_in s p) ∷ [])).number ≡ number_of BadList → bad ≡ true
    go true x y e = refl
    go false true y e = absurd (omega arith)
    go false false true e = absurd (omega arith)
    go false false false e = absurd (omega arith)
