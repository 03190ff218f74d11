-- How the answers of settling and of crossing decide the state in which a walk begins and its next line. Assumes nothing.
use mathlib.Core.Path.{◌≡◌, sym, ap, ◌∙◌}
use mathlib.Core.Bool.{Bool, true, false}
use lib.Dec.{ltb}
use Rattle.reply.specs.Replies.{Verdict}
use Rattle.std.specs.Prelude.{Ok, Err, Result, Some}
use Rattle.reply.specs.declared.Refusal.{Refusal}
use Rattle.reply.proofs.Entries.{refused}
use Rattle.level.specs.Levels.{bad_grid, limit_of}
use Rattle.faceijk.specs.declared.Landed.{Landed}
use Rattle.faceijk.specs.declared.Rested.{Rested}
use Rattle.faceijk.specs.Places.{sum_at, on_grid_verdict}
use Rattle.faceijk.specs.Crossing.{crossing_of}
use Rattle.faceijk.specs.Entries.{said_crossed, cross_reply, said_settled, settle_reply}
use Rattle.faceijk.proofs.Taking.{accepted}
use Rattle.faceijk.proofs.Unique.{cross_told, settle_told}
use Rattle.walk_lines.specs.declared.Line.{Line}
use Rattle.walk_question.specs.declared.Question.{Question}
use Rattle.walk.specs.declared.Walk.{Walk}
use Rattle.walk.specs.declared.State.{State}
use Rattle.walk.specs.Texts.{grid_in, beginning, begun_with, begun_at, moved_to, onward_step, told_step, walking_step}

-- how a walk begins
module _ (q : Question) where
  pub begun_done : {x : Result Rested Refusal} {s : Rested} → x ≡ Ok s → said_settled x ≡ settle_reply q.place q.level.0 q.substrate → State.Starting (record { place = q.place; rest = s; level = q.level; substrate = q.substrate }) ≡ begun_at q
  unfolding begun_at
  begun_done is e =
      let t = settle_told q.place q.level.0 q.substrate is e in
      ap (λ (s : Rested). State.Starting (record { place = q.place; rest = s; level = q.level; substrate = q.substrate })) t.1 ∙
      ap (λ (v : Verdict). begun_with v (beginning q)) (sym t.0)

  pub begun_refused : {x : Result Rested Refusal} {r : Refusal} → x ≡ Err r → said_settled x ≡ settle_reply q.place q.level.0 q.substrate → State.Refusing r ≡ begun_at q
  unfolding begun_at
  begun_refused {x} {r} is e =
      let v = refused 5 (on_grid_verdict q.place q.level.0) r _ (ap said_settled (sym is) ∙ e) in
      ap (λ (v : Verdict). begun_with v (beginning q)) (sym v)

-- how a walk on its way goes on
module _ (w : Walk) where
  abbrev ask : Result Landed Refusal → Type 0
  ask x = said_crossed x ≡ cross_reply w.place w.level.0 w.substrate false

  abbrev going : Bool → Type 0
  going b = bad_grid w.level.0 ≡ false → b ≡ ltb (limit_of w.level.0 w.substrate) (sum_at w.place)

  landing : {x : Result Landed Refusal} {c : Landed} (b : Bool) → x ≡ Ok c → ask x → going b → onward_step b w c.place ≡ walking_step w
  unfolding walking_step
  landing {x} {c} b is e h =
      let t = cross_told w.place w.level.0 w.substrate false is e in
      let q = (crossing_of false (grid_in w) w.place).place in
      ap (λ (c : Landed). onward_step b w c.place) t.1 ∙
      (ap (λ (b : Bool). onward_step b w q) (h (accepted w.place w.level.0 false t.0).level) ∙
      ap (λ (v : Verdict). told_step v (onward_step (ltb (grid_in w).limit (sum_at w.place)) w q)) (sym t.0))

  pub over_step : {x : Result Landed Refusal} {c : Landed} (b : Bool) → x ≡ Ok c → ask x → going b → b ≡ true → Some (Line.Over c.place, State.Walking (moved_to w c.place)) ≡ walking_step w
  over_step {x} {c} b is e h t = ap (λ (b : Bool). onward_step b w c.place) (sym t) ∙ landing b is e h

  pub rest_step : {x : Result Landed Refusal} {c : Landed} (b : Bool) → x ≡ Ok c → ask x → going b → b ≡ false → Some (Line.Rest w.rest, State.Finished) ≡ walking_step w
  rest_step {x} {c} b is e h t = ap (λ (b : Bool). onward_step b w c.place) (sym t) ∙ landing b is e h

  pub refused_step : {x : Result Landed Refusal} {r : Refusal} → x ≡ Err r → ask x → Some (Line.Refused r, State.Finished) ≡ walking_step w
  unfolding walking_step
  refused_step {x} {r} is e =
      let v = refused 5 (on_grid_verdict w.place w.level.0) r _ (ap said_crossed (sym is) ∙ e) in
      ap (λ (v : Verdict). told_step v (onward_step (ltb (grid_in w).limit (sum_at w.place)) w (crossing_of false (grid_in w) w.place).place)) (sym v)
