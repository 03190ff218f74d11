-- A cell on its substrate grid: what its parts are. Assumes nothing.
use mathlib.Core.Path.{◌≡◌, refl}
use mathlib.Core.List.{List, ◌∷◌}
use mathlib.Core.Bool.{true, false}
use Prim.Native.Nat.{ℕ, ◌*◌, ◌/◌, ◌^◌, ◌≤◌, ◌<◌}
use native.Mathlib.Omega.{arith}
use lib.Dec.{leb, leb→le}
use borrow.Author.Tests.{le-ltb}
use Rattle.reply.specs.Replies.{answer}
use Rattle.level.specs.Levels.{bad_grid, raised_of, limit_of}
use Rattle.level.proofs.Computed.{at}
use Rattle.level.proofs.Sizes.{grid_sound}
use Rattle.level.proofs.Taking.{grid_low, raised_taken}
use Rattle.coordijk.specs.declared.CoordIJK.{CoordIJK}
use Rattle.coordijk.specs.Coordinates.{Taken}
use Rattle.faceijk.specs.declared.Place.{Place}
use Rattle.faceijk.specs.Places.{coord_of}
use Rattle.boundary.specs.declared.Cell.{Cell}
use Rattle.boundary.specs.Corners.{class_iii, six_corners, corners_at, coords_values}
use Rattle.boundary.specs.Landing.{cell_of, shape_of}
use Rattle.boundary.specs.AsWalked.{Upto, Solid}
use Rattle.boundary.proofs.Apertures.{upto_centre}

pub level_taken : (l : ℕ) → l ≤ 15 → bad_grid (raised_of l) ≡ false
level_taken l h = raised_taken l (le-ltb 15 l h)

pub upto_cell : (p : Place) (l : ℕ) (c : Cell) → c ≡ cell_of p l → Taken (coord_of p) → Upto 805306368 (coord_of c.centre)
unfolding cell_of
upto_cell p l c e t = rw e (upto_centre (class_iii l) (coord_of p) t)

-- the corners of a cell, as values
pub cell_values : (p : Place) (l : ℕ) (c : Cell) (cs : List CoordIJK) → c ≡ cell_of p l → cs ≡ six_corners c.odd (coord_of c.centre) → answer (c.level.0 ∷ coords_values cs) ≡ answer (raised_of l ∷ coords_values (corners_at (coord_of p) l))
unfolding cell_of
cell_values p l c cs e h = rw (h, e)

-- the limit of a plain grid
limit_low : (h : ℕ) → h < 9 → 2 * 7 ^ h ≤ 11529602
limit_low h l = leb→le _ _ (at (λ (k : ℕ). leb (2 * 7 ^ k) 11529602) 9 tt h l)

pub plain_low : (l : ℕ) → bad_grid l ≡ false → limit_of l false ≤ 11529602
unfolding limit_of
plain_low l b = limit_low (l / 2) (omega (arith, grid_low l b))

pub plain_some : (l : ℕ) → bad_grid l ≡ false → 0 < limit_of l false
plain_some l b = let g = grid_sound l false (grid_low l b) in omega (arith, g.twice, g.some)

pub substrate_limit : (l : ℕ) → limit_of l true ≡ 3 * limit_of l false
unfolding limit_of
substrate_limit l = refl

-- the shape that an entry hands on
pub solid : (sides : ℕ) (p : Place) (l start : ℕ) (c : Cell) → c ≡ cell_of p l → p.face < 20 → l ≤ 15 → 5 ≤ sides → sides ≤ 6 → start < sides → Solid (shape_of sides c start)
unfolding cell_of
solid sides p l start c e on low many few begun =
    let b = level_taken l low in
    rw e (record { on = on; level = b; grid = refl; limit = refl; some = plain_some (raised_of l) b; low = plain_low (raised_of l) b; many = many; few = few; begun = begun })
