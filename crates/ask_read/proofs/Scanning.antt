-- Where a byte first stands in bytes, by the library's position. Assumes nothing.
use Rattle.std.proofs.Common.{◌≡◌, refl, sym, ap, ◌∙◌, ℕ, ◌+◌, ◌≤◌, List, [], ◌∷◌, ◌-◌, length, take, drop, Bool, true, false, Option, Some, None, cond, eqb, arith}
use Rattle.std.specs.List.{position_from, position}
use Rattle.std.specs.Option.{MatchOption}
use Rattle.std.proofs.lemmas.List.{drop-take}
use Rattle.std.proofs.lemmas.Iterator.Adapters.{position_from-zero}
use Rattle.ask_read.specs.Scan.{index_of, index_after, place, slice}

counted : (b : ℕ) (xs : List ℕ) (i : ℕ) → MatchOption (position_from (λ (x : ℕ). eqb x b) i xs) (index_of b xs ≡ length xs) (λ k. k ≡ i + index_of b xs)
unfolding index_of
counted b [] i = refl
counted b (x ∷ xs) i = go (eqb x b) (position_from (λ (y : ℕ). eqb y b) (i + 1) xs) (counted b xs (i + 1))
  where
    go : (t : Bool) (o : Option ℕ) → MatchOption o (index_of b xs ≡ length xs) (λ k. k ≡ i + 1 + index_of b xs) → MatchOption (cond t (Some i) o) (index_after t (index_of b xs) ≡ length (x ∷ xs)) (λ k. k ≡ i + index_after t (index_of b xs))
    go true o h = omega arith
    go false None h = omega arith
    go false (Some k) h = omega arith

-- the position is the index, and where there is none the index is the length
positioned : (b : ℕ) (xs : List ℕ) (o : Option ℕ) → o ≡ position (λ (x : ℕ). eqb x b) xs → MatchOption o (index_of b xs ≡ length xs) (λ k. k ≡ 0 + index_of b xs)
positioned b xs o e = rw (e, position_from-zero) (counted b xs 0)

within : (b : ℕ) (xs : List ℕ) → index_of b xs ≤ length xs
unfolding index_of
within b [] = omega arith
within b (x ∷ xs) = go (eqb x b) (within b xs)
  where
    go : (t : Bool) → index_of b xs ≤ length xs → index_after t (index_of b xs) ≤ length (x ∷ xs)
    go true h = omega arith
    go false h = omega arith

pub placed : (b : ℕ) (xs : List ℕ) (i : ℕ) → Some i ≡ place b xs → (i ≡ index_of b xs) × (i ≤ length xs)
unfolding place
placed b xs i e = let p = positioned b xs (Some i) e in (omega (arith, p), omega (arith, p, within b xs))

pub unplaced : (b : ℕ) (xs : List ℕ) → None ≡ place b xs → index_of b xs ≡ length xs
unfolding place
unplaced b xs e = positioned b xs None e

-- a part, taken either way
pub part : (s : List ℕ) (from end : ℕ) → from ≤ end → take (end - from) (drop from s) ≡ slice from end s
part s from end h = let e : from + (end - from) ≡ end = omega arith in sym (drop-take from (end - from) s) ∙ ap (λ (k : ℕ). drop from (take k s)) e
