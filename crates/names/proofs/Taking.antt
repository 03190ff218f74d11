-- What the tests of corners leave known. Assumes nothing.
use mathlib.Core.Path.{◌≡◌}
use mathlib.Core.Bool.{true, false}
use Prim.Native.Nat.{ℕ}
use native.Mathlib.Omega.{arith}
use borrow.Author.Tests.{ltb-false}
use Rattle.reply.specs.Replies.{fine}
use Rattle.std.specs.Prelude.{Ok, Err, Result}
use Rattle.reply.specs.declared.Refusal.{Refusal}
use Rattle.reply.specs.declared.Refusal.TheVariants.{BadFace, BadLevel, NotReduced, OutOfFace}
use Rattle.reply.proofs.Entries.{passed, neither}
use Rattle.level.specs.declared.Grid.{Grid}
use Rattle.level.specs.Levels.{bad_grid, grid_of, Sound}
use Rattle.coordijk.specs.Coordinates.{not_reduced}
use Rattle.coordijk.proofs.Taking.{passed as taken_passed}
use Rattle.faceijk.specs.declared.Place.{Place}
use Rattle.faceijk.specs.Places.{coord_of, bad_face, on_grid_of}
use Rattle.faceijk.proofs.Taking.{fine_told, refused_told, sound_at}
use Rattle.names.specs.Entries.{out_of, names_verdict, Inside}

-- two corners on a grid of a level, as the tests let them pass
pub record Accepted (p q : Place) (l : ℕ) : Type 0 where
  pub level : bad_grid l ≡ false
  pub here : Inside (grid_of l true) p
  pub there : Inside (grid_of l true) q
  pub sound : Sound (grid_of l true)

-- and the same of the grid that the tests give
pub record Entered (p q : Place) (l : ℕ) (g : Grid) : Type 0 where
  pub fine : names_verdict p q l ≡ fine
  pub is : g ≡ grid_of l true
  pub here : Inside g p
  pub there : Inside g q
  pub sound : Sound g

module _ (p q : Place) (l : ℕ) where
  pub accepted : names_verdict p q l ≡ fine → Accepted p q l
  accepted e =
      let t3 = passed _ BadFace _ e in
      let t4 = passed (bad_grid l) BadLevel _ t3.1 in
      let t10 = passed _ NotReduced _ t4.1 in
      let t11 = passed _ OutOfFace _ t10.1 in
      let faces = neither (bad_face p.face) (bad_face q.face) t3.0 in
      let coords = neither (not_reduced (coord_of p)) (not_reduced (coord_of q)) t10.0 in
      let sums = neither (out_of (grid_of l true) p) (out_of (grid_of l true) q) t11.0 in
      let f = ltb-false 19 p.face faces.0 in
      let h = ltb-false 19 q.face faces.1 in
      record {
        level = t4.0;
        here = record { okay = record { on = omega arith; taken = taken_passed (coord_of p) coords.0 }; inside = ltb-false _ _ sums.0 };
        there = record { okay = record { on = omega arith; taken = taken_passed (coord_of q) coords.1 }; inside = ltb-false _ _ sums.1 };
        sound = sound_at l true t4.0;
      }

  pub entered : {x : Result Grid Refusal} {g : Grid} → x ≡ Ok g → x ≡ on_grid_of (names_verdict p q l) (grid_of l true) → Entered p q l g
  entered {x} {g} is e =
      let t = fine_told (names_verdict p q l) (grid_of l true) g x is e in
      let a = accepted t.0 in
      record { fine = t.0; is = t.1; here = rw t.1 a.here; there = rw t.1 a.there; sound = rw t.1 a.sound }

  pub turned_away : {x : Result Grid Refusal} {r : Refusal} → x ≡ Err r → x ≡ on_grid_of (names_verdict p q l) (grid_of l true) → names_verdict p q l ≡ Err r
  turned_away {x} {r} is e = refused_told (names_verdict p q l) (grid_of l true) r x is e
