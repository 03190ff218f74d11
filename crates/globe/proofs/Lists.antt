-- What holds of each element of a list: of those of a part, of their images, of the one at a place. Assumes nothing.
use mathlib.Core.List.{List, [], ◌∷◌, ◌++◌, map}
use Prim.Native.Nat.{ℕ, zero, suc, ◌<◌}
use native.Mathlib.Omega.{arith}
use lib.ListN.{length, get_or, replicate}
use Rattle.reply.specs.Order.{Each}

module _ {A : Type 0} (P : A → Type 0) where
  pub each_append : (xs ys : List A) → Each P xs → Each P ys → Each P (xs ++ ys)
  each_append [] ys f g = g
  each_append (x ∷ xs) ys f g = (f.0, each_append xs ys f.1 g)

  pub each_replicate : (n : ℕ) (x : A) → P x → Each P (replicate n x)
  each_replicate zero x h = tt
  each_replicate (suc n) x h = (h, each_replicate n x h)

  pub each_at : (xs : List A) (k : ℕ) (d : A) → Each P xs → k < length xs → P (get_or xs k d)
  each_at [] k d f h = absurd (omega arith)
  each_at (x ∷ xs) zero d f h = f.0
  each_at (x ∷ xs) (suc k) d f h = each_at xs k d f.1 (omega arith)

  pub each_map : {B : Type 0} (f : B → A) (xs : List B) → Each (λ (x : B). P (f x)) xs → Each P (map f xs)
  each_map f [] h = tt
  each_map f (x ∷ xs) h = (h.0, each_map f xs h.1)

  pub each_of : (Q : A → Type 0) → ((x : A) → Q x → P x) → (xs : List A) → Each Q xs → Each P xs
  each_of Q g [] h = tt
  each_of Q g (x ∷ xs) h = (g x h.0, each_of Q g xs h.1)
