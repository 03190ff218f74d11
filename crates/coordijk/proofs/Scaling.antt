-- What each map does to Q: a turn keeps it, aperture 3 multiplies it by 3 and aperture 7 by 7. Assumes nothing.
use mathlib.Core.Path.{◌≡◌, ◌∙◌}
use Prim.Native.Nat.{ℕ, ◌*◌}
use native.Mathlib.Omega.{arith}
use Rattle.coordijk.specs.declared.CoordIJK.{CoordIJK}
use Rattle.coordijk.specs.declared.GridMap.{GridMap}
use Rattle.coordijk.specs.declared.GridMap.TheVariants.{SixthTurnCcw, SixthTurnCw, Aperture3Ccw, Aperture3Cw, Aperture7Cw}
use Rattle.coordijk.specs.Coordinates.{Q}
use Rattle.coordijk.specs.Maps.{map_of}
use Rattle.coordijk.proofs.Distance.{outweigh, Q_reduced}

abbrev pub scale_of : GridMap → ℕ
scale_of SixthTurnCcw = 1
scale_of SixthTurnCw = 1
scale_of Aperture3Ccw = 3
scale_of Aperture3Cw = 3
scale_of Aperture7Cw = 7

-- a map multiplies the squared distance by its scale
pub map_scales : (m : GridMap) (c : CoordIJK) → Q (map_of m c) ≡ scale_of m * Q c
unfolding map_of Q
map_scales SixthTurnCcw c = Q_reduced _ _ _ ∙ omega (arith, outweigh c.i c.j c.k)
map_scales SixthTurnCw c = Q_reduced _ _ _ ∙ omega (arith, outweigh c.i c.j c.k)
map_scales Aperture3Ccw c = Q_reduced _ _ _ ∙ omega (arith, outweigh c.i c.j c.k)
map_scales Aperture3Cw c = Q_reduced _ _ _ ∙ omega (arith, outweigh c.i c.j c.k)
map_scales Aperture7Cw c = Q_reduced _ _ _ ∙ omega (arith, outweigh c.i c.j c.k)
