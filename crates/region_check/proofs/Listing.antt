-- On a list that passes the full check, membership is what reading every record says. Assumes nothing.
use mathlib.Core.Path.{◌≡◌, refl, sym, ap, subst, ◌∙◌}
use mathlib.Core.Bool.{Bool, true, false, ◌&&◌, ◌||◌, not}
use mathlib.Core.Logic.{⊎_elim}
use mathlib.Core.List.{List, [], ◌∷◌}
use Prim.Native.Nat.{ℕ, suc, ◌+◌, ◌-◌, ◌≤◌, ◌<◌}
use native.Mathlib.Nat.{eq-or-lt_of_le}
use native.Mathlib.Decide.{dec_lt}
use native.Mathlib.Omega.{arith}
use borrow.Author.Tests.{eqb-true, eqb-false, ltb-true, ltb-false, lt-ltb, le-ltb}
use lib.Dec.{eqb, ltb}
use Rattle.std.specs.Prelude.{Ok, Err}
use Rattle.reply.specs.Choice.{pick}
use Rattle.reply.specs.Replies.{answer, reply, Verdict, fine, bit}
use Rattle.reply.proofs.Entries.{both, answered}
use Rattle.faceijk.specs.declared.Place.{Place}
use Rattle.faceijk.specs.Places.{same_place, Okay, place_verdict}
use Rattle.faceijk.proofs.Taking.{fine_okay, okay_fine}
use Rattle.faceijk.proofs.Unique.{found_same, same_itself}
use Rattle.region.specs.Places.{before}
use Rattle.region.specs.Lists.{record_at, start_of, end_of, count_of, wrong_length, bad_span}
use Rattle.region.specs.Entries.{stands_at, sought_in, bad_for, has_reply}
use Rattle.region.proofs.Every.{alike, any_at, any_found}
use Rattle.region.proofs.Keys.{key_of, small, before_key}
use Rattle.region.proofs.Halving.{Ends, ends}
use Rattle.region_check.specs.Checks.{face_at, passes, listed, listed_reply}
use Rattle.region_check.proofs.Sorted.{okay_at, small_at, rising}
use Rattle.region_check.proofs.Begins.{Parts}
use Rattle.region_check.proofs.Checking.{Passed, passed_all, start_parts}

module _ (s : List ℕ) (p : Passed s) where
  -- a face ends where the records of later faces begin
  end_parts : (f : ℕ) → f < 20 → Parts (face_at s) (count_of s) (f + 1) (end_of s f)
  unfolding end_of
  end_parts f h = go (eqb f 19) refl
    where
      go : (b : Bool) → eqb f 19 ≡ b → Parts (face_at s) (count_of s) (f + 1) (pick b (count_of s) (start_of s (f + 1)))
      go true e =
          let l = eqb-true f 19 e in
          record { within = omega arith; before = λ n m. omega (arith, (small_at (record_at s) (count_of s) p.sound n m).face); from = λ n m k. absurd (omega arith) }
      go false e = start_parts s p (f + 1) (next f h (eqb-false f 19 e))
        where
          next : (f : ℕ) → f < 20 → (f ≡ 19 → ⊥) → f + 1 < 20
          next f h o = let l : f ≤ 19 = omega arith in ⊎_elim (λ q. absurd (o q)) (λ m. omega arith) (eq-or-lt_of_le l)

  module _ (f : ℕ) (on : f < 20) where
    ordered : start_of s f ≤ end_of s f
    ordered = go (ltb (end_of s f) (start_of s f)) refl
      where
        go : (b : Bool) → ltb (end_of s f) (start_of s f) ≡ b → start_of s f ≤ end_of s f
        go true e =
            let l = ltb-true (end_of s f) (start_of s f) e in
            let a = start_parts s p f on in
            absurd (omega (arith, a.before (end_of s f) l, (end_parts f on).from (end_of s f) (omega arith) (omega (arith, a.within))))
        go false e = ltb-false (end_of s f) (start_of s f) e

    span_good : bad_span s f ≡ false
    unfolding bad_span
    span_good = rw (le-ltb (end_of s f) (start_of s f) ordered, le-ltb (count_of s) (end_of s f) (end_parts f on).within)

  -- the quick question never refuses a list that passes
  pub good_for : (f : ℕ) → bad_for s f ≡ false
  good_for f = go (ltb 19 f) refl
    where
      go : (b : Bool) → ltb 19 f ≡ b → (wrong_length s || (not b && bad_span s f)) ≡ false
      go true e = rw p.tested
      go false e = rw (p.tested, span_good f (omega (arith, ltb-false 19 f e)))

  module _ (q : Place) (okay : Okay q) where
    low : ℕ → Bool
    low n = before (record_at s n) q

    hit : ℕ → Bool
    hit n = same_place (record_at s n) q

    at : ℕ → ℕ
    at n = key_of (record_at s n)

    low_is : (n : ℕ) → n < count_of s → low n ≡ ltb (at n) (key_of q)
    unfolding low at
    low_is n h = before_key (record_at s n) q (small_at (record_at s) (count_of s) p.sound n h) (small q okay)

    -- those that come before the place stand first
    first : (m n : ℕ) → m ≤ n → n < count_of s → low n ≡ true → low m ≡ true
    unfolding at
    first m n h l e =
        let b = ltb-true (at n) (key_of q) (sym (low_is n l) ∙ e) in
        let r = ⊎_elim {C = at m ≤ at n} (λ q. rw q (omega arith)) (λ k. omega (arith, rising (record_at s) (count_of s) p.sound n m k l)) (eq-or-lt_of_le h) in
        low_is m (omega arith) ∙ lt-ltb (at m) (key_of q) (omega arith)

    stand : Ends low (start_of s q.face) (end_of s q.face) (stands_at s q)
    unfolding stands_at low
    stand =
        let end = end_of s q.face in
        let start = start_of s q.face in
        let rises = ordered q.face okay.on in
        ends low (count_of s) first (end - start) start end rises (omega arith) (end_parts q.face okay.on).within

    found_listed : sought_in s q ≡ true → listed s q ≡ true
    unfolding sought_in listed hit
    found_listed e =
        let b = both (ltb (stands_at s q) (end_of s q.face)) _ e in
        let l = ltb-true (stands_at s q) (end_of s q.face) b.0 in
        any_at hit (count_of s) (stands_at s q) (omega (arith, (end_parts q.face okay.on).within)) b.1

    -- a record that is the place stands where the search ends
    here : (n : ℕ) → n < count_of s → start_of s q.face ≤ n → n < end_of s q.face → record_at s n ≡ q → stands_at s q ≡ n
    unfolding at
    here n h from to e =
        let key : at n ≡ key_of q = ap key_of e in
        elim (dec_lt n (stands_at s q)) [
          | yes early ↦
              let b = ltb-true (at n) (key_of q) (sym (low_is n h) ∙ stand.low_before n from early) in
              absurd (omega arith)
          | no late ↦
              elim (dec_lt (stands_at s q) n) [
                | yes before ↦
                    let b = ltb-false (at (stands_at s q)) (key_of q) (sym (low_is (stands_at s q) (omega arith)) ∙ stand.high_after (stands_at s q) (omega arith) (omega arith)) in
                    absurd (omega (arith, rising (record_at s) (count_of s) p.sound n (stands_at s q) before h))
                | no same ↦ omega arith
              ]
        ]

    listed_found : listed s q ≡ true → sought_in s q ≡ true
    unfolding sought_in listed hit
    listed_found e =
        let x = any_found hit (count_of s) e in
        let n = x.which in
        let is = found_same (record_at s n) q x.holds in
        let f : face_at s n ≡ q.face = ap (λ (r : Place). r.face) is in
        let from = not_less n (start_of s q.face) (λ l. omega (arith, (start_parts s p q.face okay.on).before n l)) in
        let to = not_less (end_of s q.face) (suc n) (λ l. omega (arith, (end_parts q.face okay.on).from n (omega arith) x.below)) in
        rw (here n x.below from to is, lt-ltb n (end_of s q.face) to) x.holds
      where
        not_less : (a b : ℕ) → (a < b → ⊥) → b ≤ a
        not_less a b o = elim (dec_lt a b) [ yes l ↦ absurd (o l) | no l ↦ omega arith ]

    sought_listed : sought_in s q ≡ listed s q
    sought_listed = alike (sought_in s q) (listed s q) found_listed listed_found

-- On a list that passes the full check, the quick answer about any place is that of reading every record.
pub membership : (s : List ℕ) → passes s ≡ true → (q : Place) → has_reply s q ≡ listed_reply s q
membership s e q = rw (good_for s (passed_all s e) q.face) (go (place_verdict q) refl)
  where
    go : (v : Verdict) → place_verdict q ≡ v → reply 1 v (bit (sought_in s q) ∷ []) ≡ reply 1 v (bit (listed s q) ∷ [])
    go (Ok _) f = ap (λ (b : Bool). reply 1 fine (bit b ∷ [])) (sought_listed s (passed_all s e) q (fine_okay q f))
    go (Err r) f = refl

-- ---- the same without tests: yes exactly when some record is the place

pub record There (s : List ℕ) (q : Place) : Type 0 where
  pub which : ℕ
  pub below : which < count_of s
  pub is : record_at s which ≡ q

module _ (s : List ℕ) (e : passes s ≡ true) (q : Place) where
  pub there_yes : There s q → has_reply s q ≡ answer (1 ∷ [])
  unfolding listed
  there_yes t =
      let okay : Okay q = subst Okay t.is (okay_at (record_at s) (count_of s) (passed_all s e).sound t.which t.below) in
      let same = ap (λ (p : Place). same_place p q) t.is ∙ same_itself q in
      membership s e q ∙ rw (okay_fine q okay, any_at (λ n. same_place (record_at s n) q) (count_of s) t.which t.below same)

  pub yes_there : has_reply s q ≡ answer (1 ∷ []) → There s q
  unfolding listed
  yes_there h =
      let said = answered 1 (place_verdict q) (1 ∷ []) (bit (listed s q) ∷ []) (sym h ∙ membership s e q) in
      let x = any_found (λ n. same_place (record_at s n) q) (count_of s) (is_one (listed s q) said.1) in
      record { which = x.which; below = x.below; is = found_same (record_at s x.which) q x.holds }
    where
      is_one : (b : Bool) → 1 ∷ [] ≡ bit b ∷ [] → b ≡ true
      is_one true v = refl
      is_one false v = let z : ◌≡◌ {A = ℕ} 1 0 = cc in absurd (omega arith)
