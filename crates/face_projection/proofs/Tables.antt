-- A list that is made from a function has the function's values: how a table of doubles is proved. Assumes nothing.
use mathlib.Core.Path.{◌≡◌, refl}
use mathlib.Core.List.{List, [], ◌∷◌}
use Prim.Native.Nat.{ℕ, zero, suc, ◌<◌}
use native.Mathlib.Nat.{not-suc-le-zero, le_of_suc-le-suc}
use lib.ListN.{get_or}

-- f at 0, 1, .., n - 1
abbrev pub table : {A : Type 0} → (ℕ → A) → ℕ → List A
table f zero = []
table f (suc n) = f 0 ∷ table (λ k. f (suc k)) n

pub table_at : {A : Type 0} (f : ℕ → A) (d : A) (n i : ℕ) → i < n → get_or (table f n) i d ≡ f i
table_at f d zero i h = absurd (not-suc-le-zero h)
table_at f d (suc n) zero h = refl
table_at f d (suc n) (suc i) h = table_at (λ k. f (suc k)) d n i (le_of_suc-le-suc h)
