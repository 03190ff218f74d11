-- Two outcomes of an entry on places that meet one promise coincide, what a caller learns of an answer, and that the foremost refusal is given. Assumes nothing.
use mathlib.Core.Path.{◌≡◌, refl, sym, ap, ◌∙◌}
use mathlib.Core.Bool.{Bool, true, ◌&&◌}
use Prim.Native.Nat.{ℕ, zero, suc}
use native.Mathlib.Omega.{arith}
use lib.Dec.{eqb}
use borrow.Author.Tests.{eq-eqb, eqb-true}
use Rattle.std.proofs.Math.Bool.{and_assoc}
use Rattle.reply.specs.declared.Refusal.{Refusal}
use Rattle.reply.specs.Replies.{fine}
use Rattle.std.specs.Prelude.{Ok, Result}
use Rattle.reply.specs.Order.{Foremost}
use Rattle.reply.proofs.Entries.{both, one_said, told}
use Rattle.reply.proofs.Foremost.{foremost}
use Rattle.level.specs.Levels.{unit_of, grid_of}
use Rattle.faceijk.specs.declared.Place.{Place}
use Rattle.faceijk.specs.declared.Overage.{Overage}
use Rattle.faceijk.specs.declared.Overage.TheVariants.{None, FaceEdge, NewFace}
use Rattle.faceijk.specs.declared.Landed.{Landed}
use Rattle.faceijk.specs.declared.Rested.{Rested}
use Rattle.faceijk.specs.declared.Direction.{Direction}
use Rattle.faceijk.specs.declared.Direction.TheVariants.{Itself, OverIJ, OverKI, OverJK, Elsewhere}
use Rattle.faceijk.specs.Places.{place_values, same_place, QAt, place_reasons, on_grid_reasons, over_edge_reasons, place_verdict, on_grid_verdict, over_edge_verdict}
use Rattle.faceijk.specs.Faces.{direction_number}
use Rattle.faceijk.specs.Steps.{step_of}
use Rattle.faceijk.specs.Crossing.{crossing_of, settle_from}
use Rattle.faceijk.specs.Entries.{bad_edge, overage_number, landed_values, rested_values, said_moved, step_reply, said_crossed, cross_reply, said_settled, settle_reply, said_directed}

place_from : {p q : Place} → p.face ≡ q.face → p.i ≡ q.i → p.j ≡ q.j → p.k ≡ q.k → p ≡ q
place_from f i j k = λ n. record { face = f n; i = i n; j = j n; k = k n }

pub same_place_lem : (p q : Place) → place_values p ≡ place_values q → p ≡ q
same_place_lem p q v = place_from (cc) (cc) (cc) (cc)

-- places that the test of sameness finds equal are equal, and a place is found equal to itself
pub found_same : (p q : Place) → same_place p q ≡ true → p ≡ q
found_same p q e =
    let a = both _ (eqb p.k q.k) e in
    let b = both _ (eqb p.j q.j) a.0 in
    let c = both (eqb p.face q.face) (eqb p.i q.i) b.0 in
    place_from (eqb-true _ _ c.0) (eqb-true _ _ c.1) (eqb-true _ _ b.1) (eqb-true _ _ a.1)

-- `==` of two places is this test: it joins the four numbers from the last on
pub is_equal : (p q : Place) → (eqb p.face q.face && (eqb p.i q.i && (eqb p.j q.j && eqb p.k q.k))) ≡ same_place p q
is_equal p q = rw (and_assoc (eqb p.face q.face && eqb p.i q.i) (eqb p.j q.j) (eqb p.k q.k), and_assoc (eqb p.face q.face) (eqb p.i q.i) (eqb p.j q.j && eqb p.k q.k)) refl

pub same_itself : (p : Place) → same_place p p ≡ true
same_itself p = simp (eq-eqb p.face p.face refl, eq-eqb p.i p.i refl, eq-eqb p.j p.j refl, eq-eqb p.k p.k refl)

-- the enums read back from their numbers
overage : ℕ → Overage
overage zero = None
overage (suc zero) = FaceEdge
overage (suc (suc n)) = NewFace

overage_back : (o : Overage) → overage (overage_number o) ≡ o
unfolding overage
overage_back None = refl
overage_back FaceEdge = refl
overage_back NewFace = refl

same_overage : (a b : Overage) → overage_number a ≡ overage_number b → a ≡ b
same_overage a b e = sym (overage_back a) ∙ (ap overage e ∙ overage_back b)

direction : ℕ → Direction
direction zero = Itself
direction (suc zero) = OverIJ
direction (suc (suc zero)) = OverKI
direction (suc (suc (suc zero))) = OverJK
direction (suc (suc (suc (suc n)))) = Elsewhere

direction_back : (d : Direction) → direction (direction_number d) ≡ d
unfolding direction
direction_back Itself = refl
direction_back OverIJ = refl
direction_back OverKI = refl
direction_back OverJK = refl
direction_back Elsewhere = refl

pub same_direction : (a b : Direction) → direction_number a ≡ direction_number b → a ≡ b
same_direction a b e = sym (direction_back a) ∙ (ap direction e ∙ direction_back b)

pub same_landed : (a b : Landed) → landed_values a ≡ landed_values b → a ≡ b
same_landed a b v =
    let p : a.place ≡ b.place = place_from (cc) (cc) (cc) (cc) in
    let o = same_overage a.overage b.overage (cc) in
    λ n. record { place = p n; overage = o n }

pub same_rested : (a b : Rested) → rested_values a ≡ rested_values b → a ≡ b
same_rested a b v =
    let p : a.place ≡ b.place = place_from (cc) (cc) (cc) (cc) in
    let s : a.steps ≡ b.steps = cc in
    λ n. record { place = p n; steps = s n }

-- two outcomes that meet one promise coincide, for each answer
pub one_moved : (a b : Result Place Refusal) → said_moved a ≡ said_moved b → a ≡ b
one_moved = one_said 4 place_values same_place_lem

pub one_crossed : (a b : Result Landed Refusal) → said_crossed a ≡ said_crossed b → a ≡ b
one_crossed = one_said 5 landed_values same_landed

pub one_settled : (a b : Result Rested Refusal) → said_settled a ≡ said_settled b → a ≡ b
one_settled = one_said 5 rested_values same_rested

pub one_directed : (a b : Result Direction Refusal) → said_directed a ≡ said_directed b → a ≡ b
one_directed = one_said 1 _ (λ x y v. same_direction x y (cc))

-- what a caller learns of an answer that is given
module _ (p : Place) (l : ℕ) (substrate : Bool) where
  pub step_told : (e : ℕ) {x : Result Place Refusal} {q : Place} → x ≡ Ok q → said_moved x ≡ step_reply p l substrate e → (over_edge_verdict p l (bad_edge e) ≡ fine) × (q ≡ step_of p e (unit_of l substrate))
  step_told e {x} {q} is h = let t = told 4 place_values (over_edge_verdict p l (bad_edge e)) _ is h in (t.0, same_place_lem q _ t.1)

  pub cross_told : (turn : Bool) {x : Result Landed Refusal} {c : Landed} → x ≡ Ok c → said_crossed x ≡ cross_reply p l substrate turn → (on_grid_verdict p l ≡ fine) × (c ≡ crossing_of turn (grid_of l substrate) p)
  cross_told turn {x} {c} is h = let t = told 5 landed_values (on_grid_verdict p l) _ is h in (t.0, same_landed c _ t.1)

  pub settle_told : {x : Result Rested Refusal} {s : Rested} → x ≡ Ok s → said_settled x ≡ settle_reply p l substrate → (on_grid_verdict p l ≡ fine) × (s ≡ settle_from (QAt p) (grid_of l substrate) p 0)
  settle_told {x} {s} is h = let t = told 5 rested_values (on_grid_verdict p l) _ is h in (t.0, same_rested s _ t.1)

-- the refusal given is the foremost
pub place_foremost : (p : Place) → Foremost (place_reasons p) (place_verdict p)
place_foremost p = foremost 0 (place_reasons p) (omega arith, (omega arith, tt))

pub on_grid_foremost : (p : Place) (l : ℕ) → Foremost (on_grid_reasons p l) (on_grid_verdict p l)
on_grid_foremost p l = foremost 0 (on_grid_reasons p l) (omega arith, (omega arith, (omega arith, tt)))

pub over_edge_foremost : (p : Place) (l : ℕ) (b : Bool) → Foremost (over_edge_reasons p l b) (over_edge_verdict p l b)
over_edge_foremost p l b = foremost 0 (over_edge_reasons p l b) (omega arith, (omega arith, (omega arith, (omega arith, tt))))
