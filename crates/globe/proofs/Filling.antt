-- An array that a loop fills: the entries below k are new, the others as they were. Assumes nothing.
use mathlib.Core.Path.{◌≡◌, refl, sym, ap, ◌∙◌}
use mathlib.Core.List.{List, [], ◌∷◌, ◌++◌, map, map-append}
use Prim.Native.Nat.{ℕ, zero, suc, ◌+◌, ◌-◌, ◌≤◌, ◌<◌}
use native.Mathlib.Decide.{dec_le, ℕ_discrete}
use native.Mathlib.Omega.{arith}
use lib.ListN.{length, get_or, set, replicate, length-set, length-append, length-replicate, get_or-replicate, get_or-append}
use lib.Seq.{get_or-set_same, get_or-set_other, get_or-append-add, get_or_at, ext_get_or}
use Rattle.boundary.specs.Boundaries.{room_with}

module _ {A : Type 0} (z : A) (room : ℕ) where
  -- the entries below k are those of g, the others those of w
  pub record Filled (g w : ℕ → A) (k : ℕ) (xs : List A) : Type 0 where
    pub long : length xs ≡ room
    pub new : (i : ℕ) → i < k → get_or xs i z ≡ g i
    pub old : (i : ℕ) → k ≤ i → i < room → get_or xs i z ≡ w i

  -- before the first, all are as they were
  pub unfilled : (g w : ℕ → A) (xs : List A) → length xs ≡ room → ((i : ℕ) → i < room → get_or xs i z ≡ w i) → Filled g w 0 xs
  unfilled g w xs l h = record { long = l; new = λ i b. absurd (omega arith); old = λ i b r. h i r }

  pub one_more : (g w : ℕ → A) (k : ℕ) (xs : List A) (x : A) → Filled g w k xs → k < room → x ≡ g k → Filled g w (k + 1) (set xs k x)
  one_more g w k xs x f h e =
      record {
        long = length-set xs k x ∙ f.long;
        new =
            λ i b. elim (ℕ_discrete i k) [
              | yes q ↦ ap (λ (j : ℕ). get_or (set xs k x) j z) q ∙ (get_or-set_same xs k x z (omega (arith, f.long)) ∙ (e ∙ ap g (sym q)))
              | no q ↦ get_or-set_other xs k i x z q ∙ f.new i (omega arith)
            ];
        old = λ i b r. get_or-set_other xs k i x z (λ q. absurd (omega arith)) ∙ f.old i (omega arith) r;
      }

-- ---- a list by a function

module _ {A : Type 0} where
  unfoldable pub table : (ℕ → A) → ℕ → List A
  table g zero = []
  table g (suc n) = table g n ++ (g n ∷ [])

  pub length_table : (g : ℕ → A) (n : ℕ) → length (table g n) ≡ n
  unfolding table
  length_table g zero = refl
  length_table g (suc n) = length-append (table g n) (g n ∷ []) ∙ omega (arith, length_table g n)

  table_at : (g : ℕ → A) (n i : ℕ) (d : A) → i < n → get_or (table g n) i d ≡ g i
  unfolding table
  table_at g zero i d h = absurd (omega arith)
  table_at g (suc n) i d h =
      elim (dec_le (suc i) n) [
        | yes b ↦ get_or-append (table g n) (g n ∷ []) d i (omega (arith, length_table g n)) ∙ table_at g n i d b
        | no b ↦ let q : i ≡ n = omega arith in rw q (get_or_at (table g n) (g n) [] d n (length_table g n))
      ]

  -- twelve entries of which the first n are filled are room for so many; d is what would be read past them
  pub filled_is : (d z : A) (g w : ℕ → A) (n : ℕ) (xs : List A) → n ≤ 12 → Filled d 12 g w n xs → ((i : ℕ) → n ≤ i → i < 12 → w i ≡ z) → xs ≡ room_with z (table g n)
  unfolding room_with
  filled_is d z g w n xs h f past =
      ext_get_or d xs (table g n ++ replicate (12 - length (table g n)) z)
      (f.long ∙ sym (length-append (table g n) (replicate (12 - length (table g n)) z) ∙ omega (arith, length_table g n, length-replicate (12 - length (table g n)) z)))
      (λ i r. elim (dec_le (suc i) n) [
        | yes b ↦ f.new i b ∙ sym (get_or-append (table g n) _ d i (omega (arith, length_table g n)) ∙ table_at g n i d b)
        | no b ↦ f.old i (omega arith) (omega (arith, f.long)) ∙ (past i (omega arith) (omega (arith, f.long)) ∙ sym (rest i (omega arith) (omega (arith, f.long))))
      ])
    where
      rest : (i : ℕ) → n ≤ i → i < 12 → get_or (table g n ++ replicate (12 - length (table g n)) z) i d ≡ z
      rest i a b =
          let at : length (table g n) + (i - n) ≡ i = omega (arith, length_table g n) in
          ap (λ (j : ℕ). get_or (table g n ++ replicate (12 - length (table g n)) z) j d) (sym at) ∙
          (get_or-append-add (table g n) _ (i - n) d ∙ get_or-replicate (12 - length (table g n)) (i - n) z d (omega (arith, length_table g n)))

pub table_map : {A B : Type 0} (f : A → B) (g : ℕ → A) (n : ℕ) → map f (table g n) ≡ table (λ i. f (g i)) n
unfolding table
table_map f g zero = refl
table_map {A} {B} f g (suc n) = map-append f (table g n) (g n ∷ []) ∙ ap (λ (xs : List B). xs ++ (f (g n) ∷ [])) (table_map f g n)
