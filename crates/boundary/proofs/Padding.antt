-- Room for twelve points: a point put after the last one, and the unused ones after it. Assumes nothing.
use mathlib.Core.Path.{◌≡◌, refl, sym, ap, ◌∙◌}
use mathlib.Core.List.{List, [], ◌∷◌, ◌++◌, append_assoc}
use Prim.Native.Nat.{ℕ, suc, ◌+◌, ◌-◌, ◌<◌}
use native.Mathlib.Omega.{arith}
use lib.ListN.{length, set, replicate, length-append}
use Rattle.boundary.specs.Boundaries.{room_with}

set_here : {A : Type 0} (ps : List A) (n : ℕ) (z p : A) → set (ps ++ replicate (suc n) z) (length ps) p ≡ ps ++ (p ∷ replicate n z)
set_here [] n z p = refl
set_here {A} (q ∷ ps) n z p = ap (λ (xs : List A). q ∷ xs) (set_here ps n z p)

-- putting a point at the count makes it the last one
pub put : {A : Type 0} (z : A) (ps : List A) (p : A) → length ps < 12 → set (room_with z ps) (length ps) p ≡ room_with z (ps ++ p ∷ [])
unfolding room_with
put z ps p h =
    let more : 12 - length ps ≡ suc (11 - length ps) = omega arith in
    let long : length (ps ++ p ∷ []) ≡ length ps + 1 = length-append ps (p ∷ []) in
    let less : 11 - length ps ≡ 12 - length (ps ++ p ∷ []) = omega arith in
    ap (λ (n : ℕ). set (ps ++ replicate n z) (length ps) p) more ∙
    (set_here ps (11 - length ps) z p ∙
    (ap (λ (n : ℕ). ps ++ (p ∷ replicate n z)) less ∙
    sym (append_assoc ps (p ∷ []) (replicate (12 - length (ps ++ p ∷ [])) z))))
