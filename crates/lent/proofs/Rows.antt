-- Rows stored one after the other: the values of the first v elements of a list, then of one more. Assumes nothing.
use mathlib.Core.Path.{◌≡◌, sym, ap, ◌∙◌}
use mathlib.Core.List.{List, [], ◌∷◌, ◌++◌, append_assoc}
use Prim.Native.Nat.{ℕ, ◌+◌, ◌≤◌, ◌<◌}
use native.Mathlib.Numerals.{add-one}
use native.Mathlib.Omega.{arith}
use lib.ListN.{length, get_or, take, drop}
use lib.Seq.{take-suc}
use Rattle.lent.specs.Lent.{stored}
use Rattle.lent.proofs.Writing.{put_more}

-- f of a list is made of a row for each element; h stands before the rows
module _ {A B : Type 0} (f : List A → List B) (row : A → List B) (snoc : (xs : List A) (x : A) → f (xs ++ (x ∷ [])) ≡ f xs ++ row x) where
  pub store_more : (h : List B) (xs : List A) (d : A) (o out : List B) (v n m : ℕ) → v < length xs → m ≡ n + length (row (get_or xs v d)) → m ≤ length o
      → length out ≡ length o → out ≡ (h ++ f (take v xs)) ++ drop n o
      → stored out n (row (get_or xs v d)) ≡ (h ++ f (take (v + 1) xs)) ++ drop m o
  store_more h xs d o out v n m more e room long was =
      let put = put_more (h ++ f (take v xs)) o (row (get_or xs v d)) n (ap length (sym was) ∙ long) (omega arith) in
      rw was (put ∙ rw (e, add-one, take-suc xs v d more, snoc, append_assoc h (f (take v xs)) (row (get_or xs v d))))

-- what a slice holds whose first value was stored
pub begun : {A : Type 0} (a : A) (o old : List A) → o ≡ (a ∷ []) ++ drop 1 old → o ≡ a ∷ drop 1 o
begun a o old e = e ∙ ap (λ (l : List _). a ∷ drop 1 l) (sym e)
