-- Laws of the sixth turns. Assumes nothing.
use mathlib.Core.Path.{◌≡◌, ap, ◌∙◌}
use Prim.Native.Nat.{ℕ, ◌+◌, ◌*◌}
use native.Mathlib.Omega.{arith}
use Rattle.coordijk.specs.declared.CoordIJK.{CoordIJK}
use Rattle.coordijk.specs.declared.GridMap.TheVariants.{SixthTurnCcw, SixthTurnCw}
use Rattle.coordijk.specs.Coordinates.{least, least_of, reduced}
use Rattle.coordijk.specs.Maps.{map_of, turns_of}
use Rattle.coordijk.proofs.Reducing.{reduced_shift, reduced_same, reduced_idle}

ccw : CoordIJK → CoordIJK
ccw = map_of SixthTurnCcw

cw : CoordIJK → CoordIJK
cw = map_of SixthTurnCw

-- a turn, as sums
pub ccw_sums : (c : CoordIJK) → map_of SixthTurnCcw c ≡ reduced (c.k + c.i) (c.i + c.j) (c.j + c.k)
unfolding map_of
ccw_sums c = reduced_same (omega arith) (omega arith) (omega arith)

pub cw_sums : (c : CoordIJK) → map_of SixthTurnCw c ≡ reduced (c.i + c.j) (c.j + c.k) (c.k + c.i)
unfolding map_of
cw_sums c = reduced_same (omega arith) (omega arith) (omega arith)

-- a turn looks through the reducing
pub ccw_reduced : (a b c : ℕ) → map_of SixthTurnCcw (reduced a b c) ≡ reduced (a + c) (a + b) (b + c)
unfolding map_of reduced
ccw_reduced a b c = let l = least a b c in reduced_shift _ _ _ (a + c) (a + b) (b + c) (2 * l) 0 (omega arith) (omega arith) (omega arith)

pub cw_reduced : (a b c : ℕ) → map_of SixthTurnCw (reduced a b c) ≡ reduced (a + b) (b + c) (c + a)
unfolding map_of reduced
cw_reduced a b c = let l = least a b c in reduced_shift _ _ _ (a + b) (b + c) (c + a) (2 * l) 0 (omega arith) (omega arith) (omega arith)

-- two turns move each coordinate one place on
ccw_twice : (a b c : ℕ) → ccw (ccw (reduced a b c)) ≡ reduced c a b
unfolding ccw
ccw_twice a b c =
    ap ccw (ccw_reduced a b c) ∙
    (ccw_reduced _ _ _ ∙ reduced_shift _ _ _ c a b 0 (a + b + c) (omega arith) (omega arith) (omega arith))

-- one, three and five turns, as sums: those of the step table
pub turned_1 : (c : CoordIJK) → turns_of 1 c ≡ reduced (c.k + c.i) (c.i + c.j) (c.j + c.k)
unfolding turns_of
turned_1 c = ccw_sums c

pub turned_3 : (c : CoordIJK) → turns_of 3 c ≡ reduced (c.j + c.k) (c.k + c.i) (c.i + c.j)
unfolding turns_of ccw
turned_3 c = ap (λ (d : CoordIJK). ccw (ccw d)) (ccw_sums c) ∙ ccw_twice _ _ _

pub turned_5 : (c : CoordIJK) → turns_of 5 c ≡ reduced (c.i + c.j) (c.j + c.k) (c.k + c.i)
unfolding turns_of ccw
turned_5 c = ap (λ (d : CoordIJK). ccw (ccw (ccw (ccw d)))) (ccw_sums c) ∙ (ap (λ (d : CoordIJK). ccw (ccw d)) (ccw_twice _ _ _) ∙ ccw_twice _ _ _)

home : (c : CoordIJK) → least_of c ≡ 0 → (x y z t : ℕ) → x ≡ c.i + t → y ≡ c.j + t → z ≡ c.k + t → reduced x y z ≡ c
home c flat x y z t p q r = reduced_shift x y z _ _ _ 0 t (omega arith) (omega arith) (omega arith) ∙ reduced_idle c flat

-- six turns bring a reduced triple back to itself
pub six_turns : (c : CoordIJK) → least_of c ≡ 0 → turns_of 6 c ≡ c
unfolding turns_of ccw
six_turns c flat = ap ccw (turned_5 c) ∙ (ccw_reduced _ _ _ ∙ home c flat _ _ _ (c.i + c.j + c.k) (omega arith) (omega arith) (omega arith))

-- a turn CW undoes one CCW, and the other way round
pub cw_undoes_ccw : (c : CoordIJK) → least_of c ≡ 0 → map_of SixthTurnCw (map_of SixthTurnCcw c) ≡ c
unfolding cw
cw_undoes_ccw c flat = ap cw (ccw_sums c) ∙ (cw_reduced _ _ _ ∙ home c flat _ _ _ (c.i + c.j + c.k) (omega arith) (omega arith) (omega arith))

pub ccw_undoes_cw : (c : CoordIJK) → least_of c ≡ 0 → map_of SixthTurnCcw (map_of SixthTurnCw c) ≡ c
unfolding ccw
ccw_undoes_cw c flat = ap ccw (cw_sums c) ∙ (ccw_reduced _ _ _ ∙ home c flat _ _ _ (c.i + c.j + c.k) (omega arith) (omega arith) (omega arith))
