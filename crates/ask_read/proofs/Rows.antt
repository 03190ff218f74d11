-- Two words that agree byte by byte are one. Assumes nothing.
use mathlib.Core.Path.{◌≡◌, refl}
use mathlib.Core.Bool.{true, false≢true}
use mathlib.Core.List.{List, [], ◌∷◌}
use Prim.Native.Nat.{ℕ}
use lib.Dec.{eqb}
use borrow.Author.Tests.{eqb-true}
use Rattle.ask_read.specs.Words.{same}
use Rattle.reply.proofs.Entries.{both}

-- two words that agree byte by byte are one
pub same_is : (s t : List ℕ) → same s t ≡ true → s ≡ t
unfolding same
same_is [] [] e = refl
same_is [] (b ∷ t) e = absurd (false≢true e)
same_is (a ∷ s) [] e = absurd (false≢true e)
same_is (a ∷ s) (b ∷ t) e =
    let r = both (eqb a b) (same s t) e in
    let h : a ≡ b = eqb-true a b r.0 in
    let q : s ≡ t = same_is s t r.1 in
    λ d. h d ∷ q d
