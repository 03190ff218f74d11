-- The values of an answer in their order: which number or double stands at each place of the kinds. Assumes nothing.
use mathlib.Core.Path.{◌≡◌, refl, sym, ap, ◌∙◌}
use mathlib.Core.Bool.{Bool, true, false}
use mathlib.Core.List.{List, ◌∷◌}
use Prim.Native.Nat.{ℕ, suc, ◌+◌, ◌-◌, ◌≤◌, ◌<◌}
use native.Mathlib.Numerals.{add-one}
use native.Mathlib.Omega.{arith}
use lib.ListN.{length, get_or, drop}
use lib.Seq.{drop-cons, drop-drop, get_or-drop}
use Rattle.std.specs.Int.{from_bool}
use Rattle.reply.specs.Choice.{pick}
use Rattle.ask_call.specs.Replies.{is_double, values_in}

-- before value k, d of the values were doubles: from there on the values are those of the kinds, numbers and doubles that are left
abbrev pub Left : List ℕ → List ℕ → List ℕ → ℕ → ℕ → Type 0
Left kinds ns ds k d = drop k (values_in kinds ns ds) ≡ values_in (drop k kinds) (drop (k - d) ns) (drop d ds)

-- the first of what is left, and the others
head_of : (b : Bool) (p q : ℕ) (ps qs : List ℕ) → get_or (pick b (p ∷ ps) (q ∷ qs)) 0 0 ≡ pick b p q
head_of true p q ps qs = refl
head_of false p q ps qs = refl

tail_of : (b : Bool) (p q : ℕ) (ps qs : List ℕ) → drop 1 (pick b (p ∷ ps) (q ∷ qs)) ≡ pick b ps qs
tail_of true p q ps qs = refl
tail_of false p q ps qs = refl

pub nothing_read : (kinds ns ds : List ℕ) → Left kinds ns ds 0 0
nothing_read kinds ns ds = refl

module _ (kinds ns ds : List ℕ) (k d : ℕ) (within : k < length kinds) (few : d ≤ k) (left : Left kinds ns ds k d) where
  seen : drop k (values_in kinds ns ds) ≡ pick (is_double (get_or kinds k 0)) (get_or (drop d ds) 0 0 ∷ values_in (drop (suc k) kinds) (drop (k - d) ns) (drop 1 (drop d ds))) (get_or (drop (k - d) ns) 0 0 ∷ values_in (drop (suc k) kinds) (drop 1 (drop (k - d) ns)) (drop d ds))
  unfolding values_in
  seen = left ∙ ap (λ (l : List ℕ). values_in l (drop (k - d) ns) (drop d ds)) (drop-cons kinds k 0 within)

  at_start : (l : List ℕ) (i : ℕ) → get_or (drop i l) 0 0 ≡ get_or l i 0
  at_start l i = get_or-drop i l 0 0 ∙ ap (λ (n : ℕ). get_or l n 0) (omega arith)

  -- value k is the next double or the next number
  pub value_is : get_or (values_in kinds ns ds) k 0 ≡ pick (is_double (get_or kinds k 0)) (get_or ds d 0) (get_or ns (k - d) 0)
  value_is =
      sym (at_start (values_in kinds ns ds) k) ∙
      (ap (λ (l : List ℕ). get_or l 0 0) seen ∙
      (head_of (is_double (get_or kinds k 0)) (get_or (drop d ds) 0 0) (get_or (drop (k - d) ns) 0 0) _ _ ∙
      (λ i. pick (is_double (get_or kinds k 0)) (at_start ds d i) (at_start ns (k - d) i))))

  rest_is : (b : Bool) → pick b (values_in (drop (suc k) kinds) (drop (k - d) ns) (drop 1 (drop d ds))) (values_in (drop (suc k) kinds) (drop 1 (drop (k - d) ns)) (drop d ds)) ≡ values_in (drop (suc k) kinds) (drop ((k + 1) - pick b (d + 1) d) ns) (drop (pick b (d + 1) d) ds)
  rest_is true =
      let e : k - d ≡ (k + 1) - (d + 1) = omega arith in
      λ i. values_in (drop (suc k) kinds) (drop (e i) ns) (drop-drop 1 d ds i)
  rest_is false =
      let e : (k - d) + 1 ≡ (k + 1) - d = omega arith in
      ap (λ (l : List ℕ). values_in (drop (suc k) kinds) l (drop d ds)) (drop-drop 1 (k - d) ns ∙ ap (λ (n : ℕ). drop n ns) e)

  -- and one value less is left
  pub one_read : Left kinds ns ds (k + 1) (pick (is_double (get_or kinds k 0)) (d + 1) d)
  one_read =
      sym (drop-drop 1 k (values_in kinds ns ds)) ∙
      (ap (drop 1) seen ∙
      (tail_of (is_double (get_or kinds k 0)) (get_or (drop d ds) 0 0) (get_or (drop (k - d) ns) 0 0) _ _ ∙
      (rest_is (is_double (get_or kinds k 0)) ∙
      ap (λ (n : ℕ). values_in (drop n kinds) (drop ((k + 1) - pick (is_double (get_or kinds k 0)) (d + 1) d) ns) (drop (pick (is_double (get_or kinds k 0)) (d + 1) d) ds)) (sym (add-one k)))))

-- one more where the value was a double
pub past : (b : Bool) (d n : ℕ) → n ≡ from_bool b → d + n ≡ pick b (d + 1) d
past true d n e = omega arith
past false d n e = omega arith

pub past_within : (b : Bool) (k d : ℕ) → d ≤ k → pick b (d + 1) d ≤ k + 1
past_within true k d h = omega arith
past_within false k d h = omega arith
