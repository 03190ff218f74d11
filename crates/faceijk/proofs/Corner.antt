-- The pentagon turn is a CW sixth turn about (m,0,0): it is that turn over numbers with sign, fixes (m,0,0), keeps the distance to it, and six are none. Assumes nothing.
use mathlib.Core.Path.{◌≡◌, sym, ap, ◌∙◌}
use Prim.Native.Nat.{ℕ, ◌+◌, ◌*◌}
use native.Mathlib.Nat.{one-mul}
use native.Mathlib.Omega.{arith}
use lib.IntN.{ℤ, pos, ◌+ℤ◌, ◌-ℤ◌, ◌*ℤ◌}
use Rattle.coordijk.specs.declared.CoordIJK.{CoordIJK}
use Rattle.coordijk.specs.declared.GridMap.TheVariants.{SixthTurnCw}
use Rattle.coordijk.specs.Coordinates.{least, least_of, reduced, Q}
use Rattle.coordijk.specs.Maps.{map_of}
use Rattle.coordijk.specs.Signed.{signed, reduced_z}
use Rattle.coordijk.proofs.Reducing.{reduced_shift, reduced_idle}
use Rattle.coordijk.proofs.Turning.{cw_sums, cw_reduced}
use Rattle.coordijk.proofs.Scaling.{map_scales}
use Rattle.coordijk.proofs.Differences.{line, plus, same}
use Rattle.coordijk.proofs.Lifting.{lowered}
use Rattle.faceijk.specs.Crossing.{about_corner}
use Rattle.faceijk.specs.Turn.{corner, from, turned_about}

-- what is added to i looks through the reducing
along : (m a b c : ℕ) → let q = reduced a b c in reduced (q.i + m) q.j q.k ≡ reduced (a + m) b c
unfolding reduced
along m a b c = let l = least a b c in reduced_shift _ _ _ (a + m) b c l 0 (omega arith) (omega arith) (omega arith)

-- the turn, as sums
pub about_sums : (m : ℕ) (c : CoordIJK) → about_corner m c ≡ reduced (c.i + c.j + m) (c.j + c.k + m) (c.k + c.i)
unfolding about_corner
about_sums m c =
    ap (λ (q : CoordIJK). reduced (q.i + m) q.j q.k) (cw_sums _)
    ∙ along m _ _ _
    ∙ reduced_shift _ _ _ _ _ _ 0 m (omega arith) (omega arith) (omega arith)

-- one coordinate: the row's line, m or 0 added again, and what is then taken off all three
shifted : (p q r m i j k n x : ℕ) → p * i + q * j + r * k + n + m ≡ x + p * m
    → pos p *ℤ (pos i -ℤ pos m) +ℤ pos q *ℤ (pos j -ℤ pos 0) +ℤ pos r *ℤ (pos k -ℤ pos 0) +ℤ pos n ≡ pos x -ℤ pos m
shifted p q r m i j k n x h =
    ap (λ (z : ℤ). z +ℤ pos n) (line p q r i m j 0 k 0)
    ∙ plus (p * i + q * j + r * k) (p * m + q * 0 + r * 0) n
    ∙ same (p * i + q * j + r * k + n) (p * m + q * 0 + r * 0) x m (omega arith)

-- The turn that crossing makes, stated without numbers below zero, is the sixth turn about (m,0,0) over numbers with sign.
pub about_corner_lem : (m : ℕ) (c : CoordIJK) → about_corner m c ≡ turned_about m c
about_corner_lem m c =
    let x = shifted 1 1 0 m c.i c.j c.k m (c.i + c.j + m) (omega arith) in
    let y = shifted 0 1 1 m c.i c.j c.k 0 (c.j + c.k + m) (omega arith) in
    let z = shifted 1 0 1 m c.i c.j c.k 0 (c.k + c.i) (omega arith) in
    about_sums m c ∙ sym (lowered _ _ _ m) ∙ (λ n. reduced_z (signed (sym x n) (sym y n) (sym z n)))

-- ---- what a turn about a point is known by

-- It fixes (m,0,0).
pub fixes_corner : (m : ℕ) → about_corner m (corner m) ≡ corner m
fixes_corner m =
    about_sums m (corner m)
    ∙ reduced_shift _ _ _ m 0 0 0 m (omega arith) (omega arith) (omega arith)
    ∙ reduced_idle (corner m) (omega arith)

-- the triple seen from (m,0,0), reduced: (0,m,m) added instead of (m,0,0) taken away
seen : (m : ℕ) (c : CoordIJK) → reduced_z (from m c) ≡ reduced c.i (c.j + m) (c.k + m)
seen m c =
    let y = same c.j 0 (c.j + m) m (omega arith) in
    let z = same c.k 0 (c.k + m) m (omega arith) in
    (λ n. reduced_z (signed (pos c.i -ℤ pos m) (y n) (z n))) ∙ lowered _ _ _ m

seen_reduced : (m a b c : ℕ) → reduced_z (from m (reduced a b c)) ≡ reduced a (b + m) (c + m)
unfolding reduced
seen_reduced m a b c =
    let l = least a b c in
    seen m (reduced a b c) ∙ reduced_shift _ _ _ a (b + m) (c + m) l 0 (omega arith) (omega arith) (omega arith)

-- Seen from (m,0,0), it is the sixth turn of the table.
pub seen_turned : (m : ℕ) (c : CoordIJK) → reduced_z (from m (about_corner m c)) ≡ map_of SixthTurnCw (reduced_z (from m c))
seen_turned m c =
    ap (λ (d : CoordIJK). reduced_z (from m d)) (about_sums m c)
    ∙ seen_reduced m _ _ _
    ∙ reduced_shift _ _ _ _ _ _ 0 0 (omega arith) (omega arith) (omega arith)
    ∙ sym (ap (map_of SixthTurnCw) (seen m c) ∙ cw_reduced _ _ _)

-- So it keeps the distance to (m,0,0).
pub keeps_distance : (m : ℕ) (c : CoordIJK) → Q (reduced_z (from m (about_corner m c))) ≡ Q (reduced_z (from m c))
keeps_distance m c = ap Q (seen_turned m c) ∙ map_scales SixthTurnCw (reduced_z (from m c)) ∙ one-mul _

-- the turn looks through the reducing, and two turns move each coordinate one place on
about_reduced : (m a b c : ℕ) → about_corner m (reduced a b c) ≡ reduced (a + b + m) (b + c + m) (c + a)
unfolding reduced
about_reduced m a b c =
    let l = least a b c in
    about_sums m (reduced a b c) ∙ reduced_shift _ _ _ _ _ _ (2 * l) 0 (omega arith) (omega arith) (omega arith)

about_twice : (m a b c : ℕ) → about_corner m (about_corner m (reduced a b c)) ≡ reduced (b + 2 * m) (c + m) a
about_twice m a b c =
    ap (about_corner m) (about_reduced m a b c)
    ∙ about_reduced m _ _ _
    ∙ reduced_shift _ _ _ _ _ _ 0 (a + b + c + m) (omega arith) (omega arith) (omega arith)

-- Six of them bring a reduced triple back to itself.
pub six_about : (m : ℕ) (c : CoordIJK) → least_of c ≡ 0 →
    let turn = about_corner m in
    turn (turn (turn (turn (turn (turn c))))) ≡ c
six_about m c flat =
    let two : CoordIJK → CoordIJK = λ d. about_corner m (about_corner m d) in
    ap (λ (d : CoordIJK). two (two (two d))) (sym (reduced_idle c flat))
    ∙ ap (λ (d : CoordIJK). two (two d)) (about_twice m _ _ _)
    ∙ ap two (about_twice m _ _ _)
    ∙ about_twice m _ _ _
    ∙ reduced_shift _ _ _ _ _ _ 0 (3 * m) (omega arith) (omega arith) (omega arith)
    ∙ reduced_idle c flat
