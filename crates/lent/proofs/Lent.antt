-- How a C function ends whose slice is long enough: an answer, a refusal. Assumes nothing.
use mathlib.Core.Path.{◌≡◌, refl, ap, ◌∙◌, subst}
use mathlib.Core.List.{List, [], ◌∷◌, ◌++◌}
use Prim.Native.Nat.{ℕ, zero, suc, ◌≤◌}
use native.Mathlib.Omega.{arith}
use lib.Ieee.{Float, binary64, to_bits}
use lib.ListN.{length, drop, length-map}
use borrow.Author.Tests.{le-ltb, ne_eqb}
use Rattle.reply.specs.declared.Refusal.{Refusal}
use Rattle.reply.specs.Replies.{number_of, Reply, answer, refusal}
use Rattle.reply.proofs.Numbers.{number_pos}
use Rattle.lent.specs.Lent.{held, Gives, bits_of}

-- a refusal's number leaves a slice as it was
pub kept : (x : Refusal) (k n : ℕ) (vs out : List ℕ) → k ≡ number_of x → out ≡ held k n vs out
kept x k n vs out e = rw (ne_eqb k 0 (λ z. omega (arith, number_pos x)))

module _ (n : ℕ) (out : List ℕ) (room : n ≤ length out) where
  said : (vs after : List ℕ) → after ≡ vs ++ drop n out → Gives n (answer vs) out after 0
  said vs after w = record { number = simp (le-ltb (length out) n room); values = w }

  pub answers : (r : Reply) (vs after : List ℕ) → answer vs ≡ r → after ≡ vs ++ drop n out → Gives n r out after 0
  answers r vs after e w = subst (λ (x : Reply). Gives n x out after 0) e (said vs after w)

  pub refuses : (r : Reply) (x : Refusal) (k : ℕ) → refusal n x ≡ r → k ≡ number_of x → Gives n r out out k
  refuses r x k e w =
      record { number = rw (le-ltb (length out) n room) (w ∙ ap (λ (y : Reply). y.number) e); values = kept x k n r.values out w }

-- A slice of doubles is read by its bits.
bits_append : (xs ys : List Float) → bits_of (xs ++ ys) ≡ bits_of xs ++ bits_of ys
bits_append [] ys = refl
bits_append (x ∷ xs) ys = ap (λ (l : List ℕ). to_bits binary64 x ∷ l) (bits_append xs ys)

bits_drop : (n : ℕ) (xs : List Float) → bits_of (drop n xs) ≡ drop n (bits_of xs)
bits_drop zero xs = refl
bits_drop (suc n) [] = refl
bits_drop (suc n) (x ∷ xs) = bits_drop n xs

-- what was written, by its bits
pub bits_written : (n : ℕ) (vs out after : List Float) → after ≡ vs ++ drop n out → bits_of after ≡ bits_of vs ++ drop n (bits_of out)
bits_written n vs out after w = ap bits_of w ∙ (bits_append vs (drop n out) ∙ ap (λ (l : List ℕ). bits_of vs ++ l) (bits_drop n out))

pub answers_doubles : (n : ℕ) (out : List Float) → n ≤ length out → (r : Reply) (vs after : List Float) → answer (bits_of vs) ≡ r → after ≡ vs ++ drop n out
    → Gives n r (bits_of out) (bits_of after) 0
answers_doubles n out room r vs after e w =
    answers n (bits_of out) (rw (length-map out (to_bits binary64)) room) r (bits_of vs) (bits_of after) e (bits_written n vs out after w)
