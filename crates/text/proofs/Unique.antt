-- Two outcomes of a writing that meet one promise coincide: the length it answers, and the whole buffer. Assumes nothing.
use mathlib.Core.Path.{◌≡◌, sym, ◌∙◌}
use mathlib.Core.List.{List}
use Prim.Native.Nat.{ℕ}
use Rattle.text.specs.Writing.{Wrote}

pub one_wrote : {longest : ℕ} {x old a b : List ℕ} {m n : ℕ} → Wrote longest x old a m → Wrote longest x old b n → (m ≡ n) × (a ≡ b)
one_wrote v w = (v.count ∙ sym w.count, v.bytes ∙ sym w.bytes)
