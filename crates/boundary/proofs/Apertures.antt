-- The apertures as the code computes them, and how large they leave a cell's centre and corners. Assumes nothing.
use mathlib.Core.Path.{◌≡◌, refl, sym, ◌∙◌}
use mathlib.Core.Bool.{Bool, true, false, ◌&&◌}
use Prim.Native.Nat.{ℕ, ◌+◌, ◌*◌, ◌<◌}
use native.Mathlib.Omega.{arith}
use lib.Dec.{T, leb, leb→le}
use lib.Ieee.Fits.{and_l, and_r}
use Rattle.reply.specs.Choice.{pick}
use Rattle.level.proofs.Computed.{at}
use Rattle.coordijk.specs.declared.CoordIJK.{CoordIJK}
use Rattle.coordijk.specs.declared.GridMap.TheVariants.{Aperture3Ccw, Aperture3Cw, Aperture7Cw}
use Rattle.coordijk.specs.Coordinates.{coord, least, reduced, Taken}
use Rattle.coordijk.specs.Maps.{map_of}
use Rattle.coordijk.proofs.Reducing.{reduced_shift, reduced_same, reduced_idle, reduced_low}
use Rattle.boundary.specs.Corners.{through_apertures, offset_of}
use Rattle.boundary.specs.AsWalked.{Upto}

-- Aperture 3 CCW, then CW, makes a triple three times as large.
pub three_times : (c : CoordIJK) → map_of Aperture3Cw (map_of Aperture3Ccw c) ≡ reduced (3 * c.i) (3 * c.j) (3 * c.k)
unfolding map_of reduced
three_times c =
    let l = least (2 * c.i + 1 * c.j + 0 * c.k) (0 * c.i + 2 * c.j + 1 * c.k) (1 * c.i + 0 * c.j + 2 * c.k) in
    reduced_shift _ _ _ (3 * c.i) (3 * c.j) (3 * c.k) (3 * l) (2 * (c.i + c.j + c.k)) (omega arith) (omega arith) (omega arith)

pub tripled : (c : CoordIJK) → Taken c → coord (3 * c.i) (3 * c.j) (3 * c.k) ≡ through_apertures false c
unfolding through_apertures
tripled c t = sym (three_times c ∙ reduced_idle (coord (3 * c.i) (3 * c.j) (3 * c.k)) (omega (arith, t.flat)))

-- aperture 7 CW, as sums; and a Class III centre from the Class II one
pub seven : (c : CoordIJK) → reduced (3 * c.i + c.k) (3 * c.j + c.i) (3 * c.k + c.j) ≡ map_of Aperture7Cw c
unfolding map_of
seven c = reduced_same (omega arith) (omega arith) (omega arith)

pub then_seven : (c : CoordIJK) → map_of Aperture7Cw (through_apertures false c) ≡ through_apertures true c
unfolding through_apertures
then_seven c = refl

-- how large: three times and twelve times what a triple that is taken may have
upto_tripled : (c : CoordIJK) → Taken c → Upto 201326592 (coord (3 * c.i) (3 * c.j) (3 * c.k))
upto_tripled c t = record { i_upto = omega (arith, t.low); j_upto = omega (arith, t.low); k_upto = omega (arith, t.low) }

pub upto_three : (c q : CoordIJK) → q ≡ through_apertures false c → Taken c → Upto 201326592 q
upto_three c q e t = rw (e ∙ sym (tripled c t)) (upto_tripled c t)

upto_seven : (q r : CoordIJK) → reduced (3 * q.i + q.k) (3 * q.j + q.i) (3 * q.k + q.j) ≡ r → Upto 201326592 q → Upto 805306368 r
upto_seven q r e u =
    let w = reduced_low (3 * q.i + q.k) (3 * q.j + q.i) (3 * q.k + q.j) in
    rw (← e) (record { i_upto = omega (arith, w, u.i_upto, u.k_upto); j_upto = omega (arith, w, u.j_upto, u.i_upto); k_upto = omega (arith, w, u.k_upto, u.j_upto) })

pub upto_centre : (odd : Bool) (c : CoordIJK) → Taken c → Upto 805306368 (through_apertures odd c)
upto_centre true c t = upto_seven _ _ (seven _ ∙ then_seven c) (upto_three c _ refl t)
upto_centre false c t =
    let u = upto_three c _ refl t in
    record { i_upto = omega (arith, u.i_upto); j_upto = omega (arith, u.j_upto); k_upto = omega (arith, u.k_upto) }

-- the offsets are at most 2, of Class III at most 5: computed over the two tables
abbrev pub widest : Bool → ℕ
widest odd = pick odd 5 2

abbrev small : ℕ → CoordIJK → Bool
small n o = leb o.i n && (leb o.j n && leb o.k n)

is_small : (n : ℕ) (o : CoordIJK) → T (small n o) → Upto n o
is_small n o t =
    let r = and_r (leb o.i n) _ t in
    record { i_upto = leb→le _ _ (and_l (leb o.i n) _ t); j_upto = leb→le _ _ (and_l (leb o.j n) _ r); k_upto = leb→le _ _ (and_r (leb o.j n) _ r) }

pub offset_within : (odd : Bool) (v : ℕ) → v < 6 → Upto (widest odd) (offset_of odd v)
offset_within true v h = is_small 5 _ (at (λ (k : ℕ). small 5 (offset_of true k)) 6 tt v h)
offset_within false v h = is_small 2 _ (at (λ (k : ℕ). small 2 (offset_of false k)) 6 tt v h)

pub offset_small : (odd : Bool) (v : ℕ) → v < 6 → Upto 5 (offset_of odd v)
offset_small true v h = offset_within true v h
offset_small false v h =
    let o = offset_within false v h in
    record { i_upto = omega (arith, o.i_upto); j_upto = omega (arith, o.j_upto); k_upto = omega (arith, o.k_upto) }
