-- What the tests of an entry on a cell leave known. Assumes nothing.
use mathlib.Core.Path.{◌≡◌}
use mathlib.Core.Bool.{Bool, false}
use Prim.Native.Nat.{ℕ, ◌≤◌, ◌<◌}
use native.Mathlib.Omega.{arith}
use borrow.Author.Tests.{ltb-false}
use Rattle.reply.specs.Replies.{fine}
use Rattle.reply.specs.declared.Refusal.TheVariants.{BadFace, BadLevel, BadRange, NotReduced}
use Rattle.reply.proofs.Entries.{passed}
use Rattle.level.specs.Levels.{bad_cell}
use Rattle.coordijk.specs.Coordinates.{not_reduced, Taken}
use Rattle.coordijk.proofs.Taking.{passed as taken_passed}
use Rattle.faceijk.specs.declared.Place.{Place}
use Rattle.faceijk.specs.Places.{coord_of, bad_face}
use Rattle.boundary.specs.AsWalked.{cell_verdict}

pub record Asked (p : Place) (l : ℕ) (bad : Bool) : Type 0 where
  pub on : p.face < 20
  pub level : l ≤ 15
  pub ranged : bad ≡ false
  pub taken : Taken (coord_of p)

pub asked : (p : Place) (l : ℕ) (bad : Bool) → cell_verdict p l bad ≡ fine → Asked p l bad
asked p l bad e =
    let t3 = passed (bad_face p.face) BadFace _ e in
    let t4 = passed (bad_cell l) BadLevel _ t3.1 in
    let t5 = passed bad BadRange _ t4.1 in
    let t10 = passed (not_reduced (coord_of p)) NotReduced _ t5.1 in
    let f = ltb-false 19 p.face t3.0 in
    record { on = omega arith; level = ltb-false 15 l t4.0; ranged = t5.0; taken = taken_passed (coord_of p) t10.0 }
