-- Two outcomes of a batch that meet one promise coincide: the number it returns, and what every lent slice then holds. Assumes nothing.
use mathlib.Core.Path.{◌≡◌, sym, ◌∙◌}
use mathlib.Core.List.{List}
use Prim.Native.Nat.{ℕ}
use lib.Ieee.{Float}
use lib.IntN.{ℤ}
use Rattle.lent.proofs.Unique.{one_held}
use Rattle.locate.specs.Batch.{batch_outcome}
use Rattle.lent_places.specs.Places.{GivesBatch}

pub one_gives_batch : (s : List Float) (level : ℕ) (input : List Float) (start : ℕ) (out : List ℤ) (refused : List ℕ) {a b : List ℤ} {c d : List ℕ} {k l : ℕ}
    → GivesBatch s level input start out a refused c k → GivesBatch s level input start out b refused d l → (k ≡ l) × (a ≡ b) × (c ≡ d)
one_gives_batch s level input start out refused g h =
    let same = g.number ∙ sym h.number in
    (same, g.rows ∙ sym h.rows, one_held 1 (batch_outcome s level input out start).said.values refused same g.count h.count)
