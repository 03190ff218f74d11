-- Writing into a lent buffer: bytes put at an index, and a whole line or nothing.
use Rattle.std.specs.Prelude.{◌≡◌, List, ◌++◌, ℕ, ◌+◌, ltb, length, drop}
use Rattle.std.proofs.lemmas.List.Edits.{sets}
use Rattle.reply.specs.Choice.{pick}

-- x was put at an index, and the index after it is given
pub record PutAt (x old new : List ℕ) (at r : ℕ) : Type 0 where
  pub end : r ≡ at + length x
  pub bytes : new ≡ sets old at x

-- what writing a line owes, where none has more than `longest` bytes: the line at the buffer's start, what it held past it, and the line's length; a buffer with fewer bytes than `longest` stays as it was, and 0 is given
pub record Wrote (longest : ℕ) (x old new : List ℕ) (r : ℕ) : Type 0 where
  pub count : r ≡ pick (ltb (length old) longest) 0 (length x)
  pub bytes : new ≡ pick (ltb (length old) longest) old (x ++ drop (length x) old)
