-- Where a face begins among records whose faces do not fall: those before lie on lower faces, those from there on do not. Assumes nothing.
use mathlib.Core.Path.{◌≡◌, refl, ap, ◌∙◌}
use mathlib.Core.Bool.{Bool, true, false, ◌||◌, not}
use mathlib.Core.Logic.{⊎_elim}
use Prim.Native.Nat.{ℕ, zero, suc, ◌+◌, ◌-◌, ◌≤◌, ◌<◌}
use native.Mathlib.Nat.{eq-or-lt_of_le, le_of_suc-le-suc, not-suc-le-zero}
use native.Mathlib.Omega.{arith}
use lib.Dec.{eqb, ltb, leb}
use borrow.Author.Tests.{ltb-true, ltb-false, lt-ltb, le-ltb, le-leb, leb-true, eqb-true, eqb-false, eq-eqb, not-true}
use Rattle.reply.specs.Choice.{pick}
use Rattle.reply.proofs.Entries.{both}
use Rattle.region.proofs.Every.{alike}
use Rattle.region_check.specs.Starts.{first_to, begins_back, begins, splits}

-- what the first number at which a test holds is
pub record First (test : ℕ → Bool) (n r : ℕ) : Type 0 where
  pub within : r ≤ n
  pub none : (k : ℕ) → k < r → test k ≡ false
  pub there : r < n → test r ≡ true

module _ (test : ℕ → Bool) where
  last : (n : ℕ) (b : Bool) → test n ≡ b → ((k : ℕ) → k < n → test k ≡ false) → First test (suc n) (pick b n (suc n))
  last n true e h = record { within = omega arith; none = h; there = λ l. e }
  last n false e h = record {
    within = omega arith;
    none = λ k l. ⊎_elim (λ q. ap test q ∙ e) (λ m. h k m) (eq-or-lt_of_le (le_of_suc-le-suc l));
    there = λ l. absurd (omega arith);
  }

  next : (n r : ℕ) (b : Bool) → ltb r n ≡ b → First test n r → First test (suc n) (pick b r (pick (test n) n (suc n)))
  next n r true e f = let l = ltb-true r n e in record { within = omega arith; none = f.none; there = λ m. f.there l }
  next n r false e f =
      let l = ltb-false r n e in
      last n (test n) refl (λ k m. f.none k (omega arith))

  pub first_is : (n : ℕ) → First test n (first_to test n)
  unfolding first_to
  first_is zero = record { within = omega arith; none = λ k l. absurd (not-suc-le-zero l); there = λ l. absurd (not-suc-le-zero l) }
  first_is (suc n) = next n (first_to test n) (ltb (first_to test n) n) refl (first_is n)

-- tests that agree below n have the same first number
pub first_same : (f g : ℕ → Bool) (n : ℕ) → ((k : ℕ) → k < n → f k ≡ g k) → first_to f n ≡ first_to g n
unfolding first_to
first_same f g zero h = refl
first_same f g (suc n) h = rw (first_same f g n (λ k l. h k (omega arith)), h n (omega arith))

back_same : (f g : ℕ → ℕ) (count d : ℕ) → ((k : ℕ) → k < count → f k ≡ g k) → begins_back f count d ≡ begins_back g count d
unfolding begins_back
back_same f g count zero h = refl
back_same f g count (suc d) h =
    rw (first_same (λ n. eqb (f n) (19 - d)) (λ n. eqb (g n) (19 - d)) count (λ k l. ap (λ (x : ℕ). eqb x (19 - d)) (h k l)), back_same f g count d h)

-- faces that agree begin at the same records
pub begins_same : (f g : ℕ → ℕ) (count face : ℕ) → ((k : ℕ) → k < count → f k ≡ g k) → begins f count face ≡ begins g count face
begins_same f g count face h = back_same f g count (20 - face) h

-- b parts the records before face f from those of face f and the later ones
pub record Parts (face : ℕ → ℕ) (count f b : ℕ) : Type 0 where
  pub within : b ≤ count
  pub before : (n : ℕ) → n < b → face n < f
  pub from : (n : ℕ) → b ≤ n → n < count → f ≤ face n

-- there is one such number
pub one_part : (face : ℕ → ℕ) (count f a b : ℕ) → Parts face count f a → Parts face count f b → a ≡ b
one_part face count f a b p q = go (ltb a b) refl (ltb b a) refl
  where
    go : (t : Bool) → ltb a b ≡ t → (u : Bool) → ltb b a ≡ u → a ≡ b
    go true e u g =
        let l = ltb-true a b e in
        absurd (omega (arith, q.before a l, p.from a (omega arith) (omega (arith, q.within))))
    go false e true g =
        let l = ltb-true b a g in
        absurd (omega (arith, p.before b l, q.from b (omega arith) (omega (arith, p.within))))
    go false e false g = omega (arith, ltb-false a b e, ltb-false b a g)

below : (x y z : ℕ) → x ≤ y → y ≡ z → (x ≡ y → ⊥) → x < z
below x y z l q o = ⊎_elim (λ s. absurd (o s)) (λ s. omega arith) (eq-or-lt_of_le l)

module _ (face : ℕ → ℕ) (count : ℕ) (rising : (m n : ℕ) → m ≤ n → n < count → face m ≤ face n) (few : (n : ℕ) → n < count → face n < 20) where
  by_face : (d r rest : ℕ) → d < 20 → First (λ n. eqb (face n) (19 - d)) count r → Parts face count (20 - d) rest
      → (b : Bool) → ltb r count ≡ b → Parts face count (20 - suc d) (pick b r rest)
  by_face d r rest h f p true e =
      let l = ltb-true r count e in
      let same = eqb-true (face r) (19 - d) (f.there l) in
      record {
        within = f.within;
        before = λ n m.
            let low = rising n r (omega arith) l in
            let other : face n ≡ 19 - d → ⊥ = eqb-false (face n) (19 - d) (f.none n m) in
            below (face n) (19 - d) (20 - suc d) (omega arith) (omega arith) other;
        from = λ n m k. omega (arith, rising r n m k);
      }
  by_face d r rest h f p false e =
      let l = ltb-false r count e in
      record {
        within = p.within;
        before = λ n m.
            let low = p.before n m in
            let other : face n ≡ 19 - d → ⊥ = eqb-false (face n) (19 - d) (f.none n (omega (arith, p.within))) in
            below (face n) (19 - d) (20 - suc d) (omega arith) (omega arith) other;
        from = λ n m k. omega (arith, p.from n m k);
      }

  back_parts : (d : ℕ) → d ≤ 20 → Parts face count (20 - d) (begins_back face count d)
  unfolding begins_back
  back_parts zero h = record { within = omega arith; before = λ n m. omega (arith, few n m); from = λ n m k. absurd (omega arith) }
  back_parts (suc d) h =
      by_face d (first_to (λ n. eqb (face n) (19 - d)) count) (begins_back face count d) (omega arith) (first_is (λ n. eqb (face n) (19 - d)) count) (back_parts d (omega arith))
      (ltb (first_to (λ n. eqb (face n) (19 - d)) count) count) refl

  -- A face begins where the records of lower faces end.
  pub begins_parts : (f : ℕ) → f ≤ 20 → Parts face count f (begins face count f)
  begins_parts f h = let e : 20 - (20 - f) ≡ f = omega arith in rw e at (back_parts (20 - f) (omega arith))

  lower_all : (f b n : ℕ) → b ≤ count → n < b → (t : Bool) → eqb b 0 ≡ t → (t || ltb (face (b - 1)) f) ≡ true → face n < f
  lower_all f b n l m true q e = absurd (omega (arith, eqb-true b 0 q))
  lower_all f b n l m false q e = omega (arith, ltb-true (face (b - 1)) f e, rising n (b - 1) (omega arith) (omega arith))

  higher_all : (f b n : ℕ) → b ≤ n → n < count → (t : Bool) → eqb b count ≡ t → (t || leb f (face b)) ≡ true → f ≤ face n
  higher_all f b n m k true q e = absurd (omega (arith, eqb-true b count q))
  higher_all f b n m k false q e = omega (arith, leb-true f (face b) e, rising b n m k)

  splits_parts : (f b : ℕ) → splits face count f b ≡ true → Parts face count f b
  unfolding splits
  splits_parts f b e =
      let s = both (not (ltb count b)) _ e in
      let t = both (eqb b 0 || ltb (face (b - 1)) f) (eqb b count || leb f (face b)) s.1 in
      let l = ltb-false count b (not-true (ltb count b) s.0) in
      record {
        within = l;
        before = λ n m. lower_all f b n l m (eqb b 0) refl t.0;
        from = λ n m k. higher_all f b n m k (eqb b count) refl t.1;
      }

  lower_one : (f b : ℕ) → ((n : ℕ) → n < b → face n < f) → (t : Bool) → eqb b 0 ≡ t → (t || ltb (face (b - 1)) f) ≡ true
  lower_one f b h true e = refl
  lower_one f b h false e = lt-ltb (face (b - 1)) f (h (b - 1) (some b (eqb-false b 0 e)))
    where
      some : (b : ℕ) → (b ≡ 0 → ⊥) → b - 1 < b
      some zero o = absurd (o refl)
      some (suc b) o = omega arith

  higher_one : (f b : ℕ) → b ≤ count → ((n : ℕ) → b ≤ n → n < count → f ≤ face n) → (t : Bool) → eqb b count ≡ t → (t || leb f (face b)) ≡ true
  higher_one f b l h true e = refl
  higher_one f b l h false e =
      ⊎_elim (λ q. absurd (eqb-false b count e q)) (λ k. le-leb f (face b) (h b (omega arith) k)) (eq-or-lt_of_le l)

  parts_splits : (f b : ℕ) → Parts face count f b → splits face count f b ≡ true
  unfolding splits
  parts_splits f b p =
      rw (le-ltb count b p.within, lower_one f b p.before (eqb b 0) refl, higher_one f b p.within p.from (eqb b count) refl)

  -- The code's test of a start finds whether it is where the face begins.
  pub splits_right : (f b : ℕ) → f ≤ 20 → splits face count f b ≡ eqb b (begins face count f)
  splits_right f b h =
      alike _ _ (λ e. eq-eqb b (begins face count f) (one_part face count f b _ (splits_parts f b e) (begins_parts f h)))
      (λ e. let q = eqb-true b (begins face count f) e in parts_splits f b (rw q (begins_parts f h)))

-- A face with no records begins where the next one does.
pub begins_none : (face : ℕ → ℕ) (count f : ℕ) → f < 20 → ((n : ℕ) → n < count → face n ≡ f → ⊥) → begins face count f ≡ begins face count (f + 1)
unfolding begins_back
begins_none face count f h o =
    let a : 20 - f ≡ suc (19 - f) = omega arith in
    let b : 20 - (f + 1) ≡ 19 - f = omega arith in
    let c : 19 - (19 - f) ≡ f = omega arith in
    let r = first_is (λ n. eqb (face n) f) count in
    rw (a, b, c) (go (ltb (first_to (λ n. eqb (face n) f) count) count) refl r)
  where
    go : (t : Bool) → ltb (first_to (λ n. eqb (face n) f) count) count ≡ t → First (λ n. eqb (face n) f) count (first_to (λ n. eqb (face n) f) count)
        → pick t (first_to (λ n. eqb (face n) f) count) (begins_back face count (19 - f)) ≡ begins_back face count (19 - f)
    go true e r =
        let l = ltb-true (first_to (λ n. eqb (face n) f) count) count e in
        absurd (o (first_to (λ n. eqb (face n) f) count) l (eqb-true (face (first_to (λ n. eqb (face n) f) count)) f (r.there l)))
    go false e r = refl

-- After the last face comes the count.
pub begins_end : (face : ℕ → ℕ) (count : ℕ) → begins face count 20 ≡ count
unfolding begins_back
begins_end face count = refl
