-- What the call that writes a list returns, and what the lent bytes hold afterwards.
use Rattle.std.specs.Prelude.{◌≡◌, List, ℕ, ℤ}
use Rattle.region_write.specs.Writing.{write_outcome}

-- the output has exactly the list's length, so that no other slice can be too short
pub record GivesList (level : ℕ) (rows : List ℤ) (out out₂ : List ℕ) (k : ℕ) : Type 0 where
  pub number : k ≡ (write_outcome level rows out).said.number
  pub bytes : out₂ ≡ (write_outcome level rows out).bytes
