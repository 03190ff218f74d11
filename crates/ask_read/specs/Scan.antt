-- Where a byte first stands in bytes, as `find` answers it.
use Rattle.std.specs.Prelude.{Bool, true, false, Option, List, [], ◌∷◌, ℕ, suc, eqb, position, take, drop}

-- the bytes from index f up to, not including, index t
abbrev pub slice : ℕ → ℕ → List ℕ → List ℕ
slice f t l = drop f (take t l)

-- the index behind a byte: here, or one further than the index in the rest
abbrev pub index_after : Bool → ℕ → ℕ
index_after true i = 0
index_after false i = suc i

-- the index of the first byte that equals b, or the length where there is none
unfoldable pub index_of : ℕ → List ℕ → ℕ
index_of b [] = 0
index_of b (x ∷ xs) = index_after (eqb x b) (index_of b xs)

-- the same index, where there is one
unfoldable pub place : ℕ → List ℕ → Option ℕ
place b l = position (λ x. eqb x b) l
