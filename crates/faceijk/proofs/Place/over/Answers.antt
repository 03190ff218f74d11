-- `Place::over` meets its contract: each return is its row of the step table, as sums. Assumes nothing.
use mathlib.Core.Path.{◌≡◌, ◌∙◌, sym, ap}
use native.Mathlib.Omega.{arith}
use Rattle.faceijk.specs.Steps.{move_over}
use Rattle.faceijk.proofs.Stepping.{alike, step_1, step_3, step_5, jk_move, polar_ij, polar_ki, equator_ij, equator_ki}
use Rattle.faceijk.proofs.Place.over.Goals as goal

pub returns-then-edge-eq3 : goal.returns-then-edge-eq3
returns-then-edge-eq3 c =
    let f = c.args.self.face in
    alike _ _ _ _ _ _ _ _ _ _ c.reduced_at.ensures (step_3 _ _ _ 0 2 2 (ap (move_over f) c.if-edge-eq3.true ∙ jk_move f)) (omega arith)

pub returns-then-edge-eq1 : goal.returns-then-edge-eq1
returns-then-edge-eq1 c =
    let a = c.args in
    let f = a.self.face in
    let row = polar_ij f (sym c.is_polar.ensures ∙ c.if-is_polar.true) in
    alike _ _ _ _ _ _ _ _ _ _ c.reduced_at-then-edge-eq1.ensures (step_1 _ _ _ 2 0 2 (ap (move_over f) c.if-edge-eq1.true ∙ row)) (omega arith)

pub returns-then-is_polar : goal.returns-then-is_polar
returns-then-is_polar c =
    let a = c.args in
    let f = a.self.face in
    let ki : a.edge ≡ 2 = omega arith in
    let row = polar_ki f (sym c.is_polar.ensures ∙ c.if-is_polar.true) in
    alike _ _ _ _ _ _ _ _ _ _ c.reduced_at-then-is_polar.ensures (step_5 _ _ _ 2 2 0 (ap (move_over f) ki ∙ row)) (omega arith)

pub returns-then-edge-eq1-2 : goal.returns-then-edge-eq1-2
returns-then-edge-eq1-2 c =
    let a = c.args in
    let f = a.self.face in
    let row = equator_ij f (sym c.is_polar.ensures ∙ c.if-is_polar.false) in
    alike _ _ _ _ _ _ _ _ _ _ c.reduced_at-then-edge-eq1-2.ensures (step_3 _ _ _ 2 2 0 (ap (move_over f) c.if-edge-eq1-2.true ∙ row)) (omega arith)

pub returns : goal.returns
returns c =
    let a = c.args in
    let f = a.self.face in
    let ki : a.edge ≡ 2 = omega arith in
    let row = equator_ki f (sym c.is_polar.ensures ∙ c.if-is_polar.false) in
    alike _ _ _ _ _ _ _ _ _ _ c.reduced_at-2.ensures (step_3 _ _ _ 2 0 2 (ap (move_over f) ki ∙ row)) (omega arith)
