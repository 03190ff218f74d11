-- How the tests of an entry lead to its answer. Assumes nothing.
use mathlib.Core.Path.{◌≡◌, refl, sym, ap, ◌∙◌}
use mathlib.Core.Bool.{true, false}
use mathlib.Core.List.{List, [], ◌∷◌, ◌++◌, map}
use Prim.Native.Nat.{ℕ}
use lib.Ieee.{Float, of_bits, to_bits}
use Rattle.std.specs.Prelude.{Ok, Err, Result}
use Rattle.reply.specs.declared.Refusal.{Refusal}
use Rattle.reply.specs.declared.Refusal.TheVariants.{BadFrame, BadLevel}
use Rattle.reply.specs.Replies.{when, first, reply, Verdict, fine}
use Rattle.level.specs.Levels.{bad_grid, grid_verdict, raised_of}
use Rattle.faceijk.specs.declared.Place.{Place}
use Rattle.faceijk.specs.Places.{bad_face}
use Rattle.vec2d.specs.declared.Vec2d.{Vec2d}
use Rattle.vec3d.specs.Frame.{bad_frame, face_at}
use Rattle.vec3d.specs.declared.Vec3d.{Vec3d}
use Rattle.vec3d.proofs.Series.{series_fine}
use Rattle.boundary.specs.Landing.{cell_of}
use Rattle.boundary.specs.Boundaries.{points_to, or_else, turns_for, bad_range, asked_shape, boundary_points}
use Rattle.boundary.specs.AsWalked.{cell_verdict}
use Rattle.boundary.proofs.Verdicts.{outside_is, reasons_are}
use Rattle.globe.specs.declared.SpherePoint.{SpherePoint}
use Rattle.globe.specs.declared.SphereBoundary.{SphereBoundary}
use Rattle.globe.specs.Points.{scale_of, sphere_of, lift_reasons, lift_verdict, sphere_reasons, vector_values, said_lifted, sphere_reply}
use Rattle.globe.specs.Boundaries.{image_of, needed_to, first_refused, globe_reasons, globe_verdict, globe_points, said_globe, globe_values, globe_reply}
use Rattle.globe.specs.AsWorked.{lifted_by, lifted_of, globe_of, scale_at, within_of}

said_lifted_lem : (v : Verdict) (w : Vec3d) → said_lifted (lifted_by v w) ≡ reply 3 v (vector_values w)
said_lifted_lem (Ok _) w = refl
said_lifted_lem (Err r) w = refl

module _ (s : List Float) (f l : ℕ) (p : Vec2d) (frame : bad_frame s ≡ false) (face : bad_face f ≡ false) where
  -- past frame and face the level decides, then the point
  past : first (sphere_reasons s f l p) ≡ first ((when (bad_grid l) BadLevel ∷ []) ++ lift_reasons (face_at s f) (scale_of l) p)
  past = rw (frame, face)

  pub lift_answers : grid_verdict l ≡ fine → said_lifted (lifted_of (face_at s f) (scale_of l) p) ≡ sphere_reply s f l p
  lift_answers e =
      let decided = past ∙ series_fine (when (bad_grid l) BadLevel ∷ []) (lift_reasons (face_at s f) (scale_of l) p) e in
      let v = sphere_of (face_at s f) (scale_of l) p in
      said_lifted_lem (lift_verdict (face_at s f) (scale_of l) p) v ∙ ap (λ (w : Verdict). reply 3 w (vector_values v)) (sym decided)

-- ---- a boundary

-- the record says what the reply has
said_is : (v : Verdict) (ps : List SpherePoint) → said_globe (globe_of v ps) ≡ reply 61 v (globe_values ps)
unfolding of_bits to_bits
said_is (Ok _) ps = refl
said_is (Err r) ps = refl

module _ (sides : ℕ) (s : List Float) (p : Place) (l start n : ℕ) where
  abbrev asked : Result SphereBoundary Refusal
  asked = globe_of (globe_verdict sides s p l start n) (globe_points sides s p l start n)

  pub asked_said : said_globe asked ≡ globe_reply sides s p l start n
  asked_said = said_is (globe_verdict sides s p l start n) (globe_points sides s p l start n)

  refused_is : (r : Refusal) → first (globe_reasons sides s p l start n) ≡ Err r → Err r ≡ asked
  unfolding globe_verdict
  refused_is r e =
      ap (λ (v : Verdict). globe_of (or_else v (first_refused s (scale_of (raised_of l)) (needed_to (asked_shape sides p l start) (turns_for sides n)))) (globe_points sides s p l start n)) (sym e)

  -- the frame decides first, then the cell
  pub frame_refused : bad_frame s ≡ true → Err BadFrame ≡ asked
  frame_refused e = refused_is BadFrame (rw e)

  module _ (frame : bad_frame s ≡ false) where
    pub cell_refused : (r : Refusal) → cell_verdict p l (bad_range sides start n) ≡ Err r → Err r ≡ asked
    cell_refused r e = refused_is r (rw frame (reasons_are sides p l start n (Err r) e))

    pub within_is : cell_verdict p l (bad_range sides start n) ≡ fine → within_of s (asked_shape sides p l start) n ≡ asked
    unfolding within_of globe_verdict globe_points boundary_points cell_of
    within_is e =
        let k = asked_shape sides p l start in
        let turns = turns_for sides n in
        rw frame
        (ap (λ (v : Verdict). globe_of (or_else v (first_refused s (scale_at k) (needed_to k turns))) (map (image_of s (scale_at k)) (points_to k turns)))
        (outside_is sides p l start n ∙ sym (reasons_are sides p l start n fine e)))
