-- Two outcomes of writing a list that meet one promise coincide: the number, and every lent byte. (Of the other calls: `lent`'s `one-gives`.) Assumes nothing.
use mathlib.Core.Path.{◌≡◌, sym, ◌∙◌}
use mathlib.Core.List.{List}
use Prim.Native.Nat.{ℕ}
use lib.IntN.{ℤ}
use Rattle.lent_regions.specs.Regions.{GivesList}

pub one_gives_list : (level : ℕ) (rows : List ℤ) (out : List ℕ) {a b : List ℕ} {k l : ℕ} → GivesList level rows out a k → GivesList level rows out b l → (k ≡ l) × (a ≡ b)
one_gives_list level rows out g h = (g.number ∙ sym h.number, g.bytes ∙ sym h.bytes)
