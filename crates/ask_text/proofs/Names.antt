-- The names of the refusals: the last one, and how long they get. Assumes nothing.
use mathlib.Core.Path.{◌≡◌, refl}
use mathlib.Core.List.{List, [], ◌∷◌}
use Prim.Native.Nat.{ℕ, zero, suc, ◌-◌, ◌≤◌}
use native.Mathlib.Decide.{dec_lt}
use native.Mathlib.Omega.{arith}
use lib.ListN.{length, get_or}
use Rattle.reply.specs.Text.{text}
use Rattle.ask_text.specs.Texts.{names, name_of}

past_end : (l : List (List ℕ)) (n : ℕ) (d : List ℕ) → length l ≤ n → get_or l n d ≡ d
past_end [] n d h = refl
past_end (x ∷ l) zero d h = absurd (omega arith)
past_end (x ∷ l) (suc n) d h = past_end l n d (omega arith)

-- what is at least k and is not k is more
pub above : (k n : ℕ) → k ≤ n → (n ≡ k → ⊥) → suc k ≤ n
above k n h ne = omega arith

-- from 15 on all have one name
pub last_name : (n : ℕ) → 15 ≤ n → name_of n ≡ text "BadList"
unfolding name_of
last_name n h =
    elim (dec_lt (n - 1) 15) [
      | yes few ↦ let e : n - 1 ≡ 14 = omega arith in rw e refl
      | no many ↦ past_end names (n - 1) (text "BadList") (omega arith)
    ]

-- a name has at most 11 bytes
abbrev Short : List (List ℕ) → Type 0
Short [] = Unit {0}
Short (x ∷ l) = (length x ≤ 11) × Short l

short : (l : List (List ℕ)) → Short l → (n : ℕ) → length (get_or l n (text "BadList")) ≤ 11
short [] h n = omega arith
short (x ∷ l) h zero = h.0
short (x ∷ l) h (suc n) = short l h.1 n

pub name_short : (n : ℕ) → length (name_of n) ≤ 11
unfolding name_of
name_short n = short names all (n - 1)
  where
    all : Short names
    all = (omega arith, (omega arith, (omega arith, (omega arith, (omega arith, (omega arith, (omega arith, (omega arith, (omega arith, (omega arith, (omega arith, (omega arith, (omega arith, (omega arith, (omega arith, tt)))))))))))))))
