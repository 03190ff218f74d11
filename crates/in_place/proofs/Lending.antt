-- What settling by value says of a lent place: where it answers, the settled place is stored; where it refuses, the place stays. Assumes nothing.
use mathlib.Core.Path.{◌≡◌, sym, ap, ◌∙◌}
use mathlib.Core.Bool.{Bool}
use mathlib.Core.List.{[], ◌∷◌}
use Prim.Native.Nat.{ℕ}
use Rattle.std.specs.Prelude.{Ok, Err, Result}
use Rattle.reply.specs.declared.Refusal.{Refusal}
use Rattle.reply.specs.Replies.{answer, refusal, Verdict}
use Rattle.reply.proofs.Entries.{answers, refuses, one_said, told_refusal}
use Rattle.faceijk.specs.declared.Place.{Place}
use Rattle.faceijk.specs.declared.Rested.{Rested}
use Rattle.faceijk.specs.Places.{on_grid_verdict}
use Rattle.faceijk.specs.Entries.{rested_values, said_settled, settle_reply}
use Rattle.faceijk.proofs.Unique.{settle_told}
use Rattle.in_place.specs.Lent.{rest_of, stored, place_after, said_stepped, steps_reply}

module _ (p : Place) (l : ℕ) (substrate : Bool) where
  -- a settled place is stored, and its steps are said
  pub done : {x : Result Rested Refusal} {s : Rested} → x ≡ Ok s → said_settled x ≡ settle_reply p l substrate → (s.place ≡ place_after p l substrate) × (answer (s.steps ∷ []) ≡ steps_reply p l substrate)
  unfolding place_after steps_reply
  done {x} {s} is e =
      let t = settle_told p l substrate is e in
      let r = rest_of p l substrate in (
        ap (λ (w : Rested). w.place) t.1 ∙ ap (λ (v : Verdict). stored v r.place p) (sym t.0),
        answers 1 _ _ _ t.0 (ap (λ (w : Rested). answer (w.steps ∷ [])) t.1),
      )

  -- a refused place stays, and the refusal is said
  pub kept : {x : Result Rested Refusal} {r : Refusal} → x ≡ Err r → said_settled x ≡ settle_reply p l substrate → (p ≡ place_after p l substrate) × (refusal 1 r ≡ steps_reply p l substrate)
  unfolding place_after steps_reply
  kept {x} {r} is e =
      let v = told_refusal 5 rested_values (on_grid_verdict p l) _ is e in
      (ap (λ (v : Verdict). stored v (rest_of p l substrate).place p) (sym v), refuses 1 _ _ _ v)

-- two outcomes that meet one promise coincide
pub one_stepped : (a b : Result ℕ Refusal) → said_stepped a ≡ said_stepped b → a ≡ b
one_stepped = one_said 1 _ (λ m n v. cc)

-- a refused place stays unchanged, said of any refusal
pub refused_unchanged : (p : Place) (l : ℕ) (substrate : Bool) (r : Refusal) → on_grid_verdict p l ≡ Err r → place_after p l substrate ≡ p
unfolding place_after
refused_unchanged p l substrate r e = ap (λ (v : Verdict). stored v (rest_of p l substrate).place p) e
