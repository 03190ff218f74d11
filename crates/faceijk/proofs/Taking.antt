-- What the tests of an entry leave known of a place, and that a step keeps it within what the code's sums ask. Assumes nothing.
use mathlib.Core.Path.{◌≡◌, refl}
use mathlib.Core.Bool.{Bool, true, false}
use Prim.Native.Nat.{ℕ, ◌+◌, ◌≤◌, ◌<◌}
use native.Mathlib.Omega.{arith}
use lib.Dec.{ltb}
use borrow.Author.Tests.{ltb-false, le-ltb}
use Rattle.reply.specs.Replies.{Verdict, fine}
use Rattle.std.specs.Prelude.{Ok, Err, Result}
use Rattle.reply.specs.Choice.{pick}
use Rattle.reply.specs.declared.Refusal.{Refusal}
use Rattle.reply.specs.declared.Refusal.TheVariants.{BadFace, BadLevel, BadRange, NotReduced}
use Rattle.reply.proofs.Entries.{passed, neither}
use Rattle.level.specs.declared.Grid.{Grid}
use Rattle.level.specs.Levels.{bad_grid, grid_of, Sound}
use Rattle.level.proofs.Sizes.{grid_sound}
use Rattle.level.proofs.Taking.{grid_low}
use Rattle.coordijk.specs.declared.CoordIJK.{CoordIJK}
use Rattle.coordijk.specs.declared.GridMap.TheVariants.{SixthTurnCw}
use Rattle.coordijk.specs.Maps.{map_of}
use Rattle.coordijk.specs.Coordinates.{coord, not_reduced, reduced}
use Rattle.coordijk.proofs.Reducing.{reduced_low}
use Rattle.coordijk.proofs.Taking.{passed as taken_passed, passes}
use Rattle.coordijk.proofs.Turning.{cw_sums}
use Rattle.faceijk.specs.declared.Place.{Place}
use Rattle.faceijk.specs.Places.{place, coord_of, Okay, Ready, bad_face, place_verdict, on_grid_verdict, over_edge_verdict, on_grid_of}
use Rattle.faceijk.specs.Crossing.{edge_out, about_corner}
use Rattle.faceijk.specs.Entries.{bad_edge}

-- a place on a grid, over an edge that is named, as the tests let them pass
pub record Accepted (p : Place) (l : ℕ) (b : Bool) : Type 0 where
  pub okay : Okay p
  pub level : bad_grid l ≡ false
  pub edge : b ≡ false

pub accepted : (p : Place) (l : ℕ) (b : Bool) → over_edge_verdict p l b ≡ fine → Accepted p l b
accepted p l b e =
    let t3 = passed (bad_face p.face) BadFace _ e in
    let t4 = passed (bad_grid l) BadLevel _ t3.1 in
    let t5 = passed b BadRange _ t4.1 in
    let t10 = passed (not_reduced (coord_of p)) NotReduced _ t5.1 in
    let f = ltb-false 19 p.face t3.0 in
    record {
      okay = record { on = omega arith; taken = taken_passed (coord_of p) t10.0 };
      level = t4.0;
      edge = t5.0;
    }

-- a place that passes is taken
pub fine_okay : (p : Place) → place_verdict p ≡ fine → Okay p
fine_okay p e =
    let t3 = passed (bad_face p.face) BadFace _ e in
    let t10 = passed (not_reduced (coord_of p)) NotReduced _ t3.1 in
    let f = ltb-false 19 p.face t3.0 in
    record { on = omega arith; taken = taken_passed (coord_of p) t10.0 }

-- the other way round: a place that is taken passes
pub okay_fine : (p : Place) → Okay p → place_verdict p ≡ fine
okay_fine p o = let f : p.face ≤ 19 = omega (arith, o.on) in simp (le-ltb 19 p.face f, passes (coord_of p) o.taken)

pub okay_on_grid : (p : Place) (l : ℕ) → Okay p → bad_grid l ≡ false → on_grid_verdict p l ≡ fine
okay_on_grid p l o h = let f : p.face ≤ 19 = omega (arith, o.on) in simp (le-ltb 19 p.face f, h, passes (coord_of p) o.taken)

pub okay_over_edge : (p : Place) (l e : ℕ) → Okay p → bad_grid l ≡ false → 1 ≤ e → e ≤ 3 → over_edge_verdict p l (bad_edge e) ≡ fine
okay_over_edge p l e o h low high =
    let f : p.face ≤ 19 = omega (arith, o.on) in
    simp (le-ltb 19 p.face f, h, le-ltb e 1 low, le-ltb 3 e high, passes (coord_of p) o.taken)

-- what an entry on a grid learns of its tests
pub fine_told : (v : Verdict) (h g : Grid) (x : Result Grid Refusal) → x ≡ Ok g → x ≡ on_grid_of v h → (v ≡ fine) × (g ≡ h)
fine_told (Ok _) h g x is e = (refl, cc)
fine_told (Err r) h g x is e = let z : ◌≡◌ {A = ℕ} 0 1 = cc in absurd (omega arith)

pub refused_told : (v : Verdict) (h : Grid) (r : Refusal) (x : Result Grid Refusal) → x ≡ Err r → x ≡ on_grid_of v h → v ≡ Err r
refused_told (Ok _) h r x is e = let z : ◌≡◌ {A = ℕ} 0 1 = cc in absurd (omega arith)
refused_told (Err s) h r x is e = cc

pub sound_at : (l : ℕ) (s : Bool) → bad_grid l ≡ false → Sound (grid_of l s)
sound_at l s h = grid_sound l s (grid_low l h)

pub edge_low : (e : ℕ) → bad_edge e ≡ false → (1 ≤ e) × (e ≤ 3)
edge_low e h = let n = neither (ltb e 1) (ltb 3 e) h in (ltb-false e 1 n.0, ltb-false 3 e n.1)

-- the edge that crossing steps over is one of the three
pub edge_range : (p : Place) → (1 ≤ edge_out p) × (edge_out p ≤ 3)
edge_range p = go (ltb 0 p.k) (ltb 0 p.j)
  where
    go : (a b : Bool) → (1 ≤ pick a (pick b 3 2) 1) × (pick a (pick b 3 2) 1 ≤ 3)
    go true true = omega arith
    go true false = omega arith
    go false b = omega arith

pub okay_ready : {p : Place} → Okay p → Ready p
okay_ready {p} o = record { i_small = omega (arith, o.taken.low); j_small = omega (arith, o.taken.low); k_small = omega (arith, o.taken.low) }

-- the turn about the corner stays within what a step asks
cw_low : (c q : CoordIJK) → q ≡ reduced (c.i + c.j) (c.j + c.k) (c.k + c.i) → (q.i ≤ c.i + c.j) × (q.j ≤ c.j + c.k) × (q.k ≤ c.k + c.i)
cw_low c q e = rw e (reduced_low _ _ _)

pub about_ready : (m : ℕ) (p : Place) → Okay p → m < 67108864 → Ready (place p.face (about_corner m (coord_of p)))
unfolding about_corner
about_ready m p o h =
    let c = coord p.i (p.j + m) (p.k + m) in
    let q = map_of SixthTurnCw c in
    let w = cw_low c q (cw_sums c) in
    let r = reduced_low (q.i + m) q.j q.k in
    let l = o.taken.low in
    record { i_small = omega (arith, r); j_small = omega (arith, r); k_small = omega (arith, r) }

-- so a step may start where crossing starts it
pub start_ready : (b : Bool) (g : Grid) (p r : Place) → r ≡ pick b (place p.face (about_corner g.limit (coord_of p))) p → Okay p → Sound g → Ready r × (r.face < 20)
start_ready true g p r e o s = rw e (about_ready g.limit p o (omega (arith, s.twice, s.small)), o.on)
start_ready false g p r e o s = rw e (okay_ready o, o.on)

-- all of that at once: an entry whose tests gave the grid g
pub record Entered (p : Place) (l : ℕ) (s b : Bool) (g : Grid) : Type 0 where
  pub fine : over_edge_verdict p l b ≡ fine
  pub is : g ≡ grid_of l s
  pub okay : Okay p
  pub sound : Sound g
  pub edge : b ≡ false

pub entered : (p : Place) (l : ℕ) (s b : Bool) {x : Result Grid Refusal} {g : Grid} → x ≡ Ok g → x ≡ on_grid_of (over_edge_verdict p l b) (grid_of l s) → Entered p l s b g
entered p l s b {x} {g} is e =
    let t = fine_told (over_edge_verdict p l b) (grid_of l s) g x is e in
    let a = accepted p l b t.0 in
    record { fine = t.0; is = t.1; okay = a.okay; sound = rw t.1 (sound_at l s a.level); edge = a.edge }

pub turned_away : (p : Place) (l : ℕ) (s b : Bool) {x : Result Grid Refusal} {r : Refusal} → x ≡ Err r → x ≡ on_grid_of (over_edge_verdict p l b) (grid_of l s) → over_edge_verdict p l b ≡ Err r
turned_away p l s b {x} {r} is e = refused_told (over_edge_verdict p l b) (grid_of l s) r x is e
