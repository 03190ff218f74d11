-- The cases of a crossing. Assumes nothing.
use mathlib.Core.Path.{◌≡◌, refl, sym, ap, ◌∙◌}
use mathlib.Core.Bool.{Bool, true, false, ◌&&◌}
use Prim.Native.Nat.{◌≤◌, ◌<◌}
use native.Mathlib.Omega.{arith}
use borrow.Author.Tests.{lt-ltb, le-ltb, ne_eqb, eqb-true}
use Rattle.reply.specs.Choice.{pick}
use Rattle.reply.proofs.Entries.{both}
use Rattle.level.specs.declared.Grid.{Grid}
use Rattle.faceijk.specs.declared.Place.{Place}
use Rattle.faceijk.specs.declared.Overage.TheVariants.{None, FaceEdge, NewFace}
use Rattle.faceijk.specs.Places.{sum_at}
use Rattle.faceijk.specs.Crossing.{on_edge, step_out, landed, arrived, crossing_of}

module _ (turn : Bool) (g : Grid) (p : Place) where
  pub stays_on_edge : (b : Bool) → b ≡ on_edge g p → b ≡ true → landed p FaceEdge ≡ crossing_of turn g p
  unfolding crossing_of
  stays_on_edge b e t = simp (sym e ∙ t)

  pub stays : (b : Bool) → b ≡ on_edge g p → b ≡ false → sum_at p ≤ g.limit → landed p None ≡ crossing_of turn g p
  unfolding crossing_of
  stays b e t h = simp (sym e ∙ t, le-ltb g.limit (sum_at p) h)

  pub goes : (b : Bool) → b ≡ on_edge g p → b ≡ false → g.limit < sum_at p → (q : Place) (d : Bool) → q ≡ step_out turn g p → d ≡ on_edge g q → landed q (pick d FaceEdge NewFace) ≡ crossing_of turn g p
  unfolding crossing_of
  goes b e t h q d w v =
      simp (sym e ∙ t, lt-ltb g.limit (sum_at p) h)
      (ap (λ (x : Bool). landed q (pick x FaceEdge NewFace)) v ∙ ap (arrived g) w)

-- beyond the limit a place is not on the edge
off : (s b : Bool) → b ≡ false → (s && b) ≡ false
off true b e = e
off false b e = refl

pub off_edge : (g : Grid) (p : Place) → g.limit < sum_at p → on_edge g p ≡ false
off_edge g p h = off g.substrate _ (ne_eqb (sum_at p) g.limit (λ e. omega arith))

pub edge_sum : (g : Grid) (p : Place) → on_edge g p ≡ true → sum_at p ≡ g.limit
edge_sum g p e = eqb-true (sum_at p) g.limit (both g.substrate _ e).1

-- a crossing made because s exceeds m lands where its step leads
pub crossed_beyond : (g : Grid) (p : Place) (turn : Bool) → g.limit < sum_at p → crossing_of turn g p ≡ arrived g (step_out turn g p)
crossed_beyond g p turn h = sym (goes turn g p false (sym (off_edge g p h)) refl h (step_out turn g p) _ refl refl)
