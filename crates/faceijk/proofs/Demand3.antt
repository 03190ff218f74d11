-- Demand 3 at the entries, once over face, level, plain or substrate: reduced coordinates up to 2^26, no pentagon turn. Assumes nothing.
use mathlib.Core.Path.{◌≡◌, sym, ap, ◌∙◌}
use mathlib.Core.Bool.{Bool, false}
use Prim.Native.Nat.{ℕ, ◌+◌, ◌-◌, ◌*◌, ◌/◌, ◌≤◌, ◌<◌}
use native.Mathlib.Omega.{arith}
use Rattle.reply.specs.Replies.{answer, fine}
use Rattle.reply.proofs.Entries.{answers}
use Rattle.level.specs.declared.Grid.{Grid}
use Rattle.level.specs.Levels.{grid_of, limit_of, Sound}
use Rattle.coordijk.specs.Coordinates.{largest_of, reduced}
use Rattle.faceijk.specs.declared.Place.{Place}
use Rattle.faceijk.specs.declared.Landed.{Landed}
use Rattle.faceijk.specs.declared.Rested.{Rested}
use Rattle.faceijk.specs.Places.{coord_of, place_values, sum_at, QAt, on_grid_verdict}
use Rattle.faceijk.specs.Faces.{face_over, dir_to}
use Rattle.faceijk.specs.Steps.{step_of}
use Rattle.faceijk.specs.Crossing.{edge_out, step_out, rested, arrived}
use Rattle.faceijk.specs.Walking.{Walk}
use Rattle.faceijk.specs.Entries.{landed_values, rested_values, step_reply, cross_reply, settle_reply}
use Rattle.faceijk.proofs.Taking.{Accepted, accepted, sound_at, edge_range, okay_over_edge}
use Rattle.faceijk.proofs.Faces.{mate_over, back_range}
use Rattle.faceijk.proofs.Crossing.{crossed_beyond}
use Rattle.faceijk.proofs.Back.{step_back}
use Rattle.faceijk.proofs.Settling.{closer, settles, at_most, walks, face_out, okay_out}

-- a crossing from p to q, made because s exceeds m
pub record Made (p q : Place) (l : ℕ) (substrate : Bool) : Type 0 where
  pub edge : ℕ
  pub an_edge : (1 ≤ edge) × (edge ≤ 3)
  pub neighbour : q.face ≡ face_over p.face edge
  pub drop : let m = limit_of l substrate in QAt q + m * (sum_at p - m) ≡ QAt p
  pub no_larger : largest_of (coord_of q) ≤ largest_of (coord_of p)
  -- the bare step back over that edge, by its number as seen from the new face, is taken and restores the record, face included
  pub restores : step_reply q l substrate (dir_to q.face p.face) ≡ answer (place_values p)

module _ (p : Place) (l : ℕ) (substrate : Bool) (taken : on_grid_verdict p l ≡ fine) (far : limit_of l substrate < sum_at p) where
  abbrev grid : Grid
  grid = grid_of l substrate

  abbrev next : Place
  next = step_out false grid p

  a : Accepted p l false
  a = accepted p l false taken

  grid_is_sound : Sound grid
  grid_is_sound = sound_at l substrate a.level

  back : step_reply next l substrate (dir_to next.face p.face) ≡ answer (place_values p)
  unfolding step_out step_of reduced
  back =
      let e = edge_range p in
      let m = mate_over (edge_out p) e.0 e.1 p.face a.okay.on in
      let b = back_range p.face (edge_out p) e.0 e.1 in
      let o = okay_out grid grid_is_sound p a.okay far in
      let s = step_back p grid.unit a.okay.on a.okay.taken.flat (edge_out p) e.0 e.1 in
      sym
      (answers 4 _ _ _ (okay_over_edge next l (dir_to next.face p.face) o a.level (omega (arith, m.back)) (omega (arith, m.back)))
      (ap (λ (x : Place). answer (place_values x)) (sym s)))

  -- demand 3 of one crossing: it is made, and the place that it answers is an edge neighbour's, nearer and no larger, and one step back restores the record
  pub crossing_beyond : (q : Place) × (cross_reply p l substrate false ≡ answer (landed_values (arrived grid q))) × Made p q l substrate
  crossing_beyond =
      let c = closer grid grid_is_sound p far a.okay.taken.flat in
      let r = edge_range p in (
        next,
        sym (answers 5 _ _ _ taken (ap (λ (x : Landed). answer (landed_values x)) (sym (crossed_beyond grid p false far)))),
        record { edge = edge_out p; an_edge = r; neighbour = face_out grid p; drop = c.drop; no_larger = c.no_larger; restores = back },
      )

-- demand 3 of settling: it ends with s at most m, after at most Q / m steps, and the number reported is that of the steps from the start to the place returned
pub settling_ends : (p : Place) (l : ℕ) (substrate : Bool) → on_grid_verdict p l ≡ fine → let g = grid_of l substrate in
    (n : ℕ) × (q : Place) × (settle_reply p l substrate ≡ answer (rested_values (rested q n))) × Walk g p n q × (sum_at q ≤ limit_of l substrate) × (n ≤ QAt p / limit_of l substrate) × (largest_of (coord_of q) ≤ largest_of (coord_of p))
settling_ends p l substrate taken =
    let g = grid_of l substrate in
    let a = accepted p l false taken in
    let sound = sound_at l substrate a.level in
    let w = walks g sound (QAt p) p 0 a.okay.taken.flat (omega arith) in
    let s = settles sound w.3 a.okay.taken.flat in (
      w.0,
      w.1,
      sym (answers 5 _ _ _ taken (ap (λ (x : Rested). answer (rested_values x)) (sym (w.2 ∙ ap (rested w.1) (omega arith))))),
      w.3,
      s.inside,
      at_most sound w.3 a.okay.taken.flat,
      s.no_larger,
    )
