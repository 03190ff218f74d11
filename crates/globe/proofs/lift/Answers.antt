-- `lift` meets its contract: the rule of one point, by the length. Assumes nothing.
use mathlib.Core.Path.{sym, ap, ◌∙◌}
use Rattle.std.specs.Prelude.{Ok}
use Rattle.std.proofs.lemmas.Result.{err_from_is_err_and}
use Rattle.globe.specs.Points.{divided_by}
use Rattle.globe.proofs.OneTest.{by_length, length_is, lifted_by_lem}
use Rattle.globe.proofs.lift.Goals as goal

pub returns-in_err-l : goal.returns-in_err-l
returns-in_err-l c =
    let a = c.args in
    let found = length_is a.axes a.scale a.p _ _ _ c.reach-v.ensures c.dot.ensures c.length_of.ensures in
    let out = err_from_is_err_and c.from_residual.result c.from_residual.ensures.1 in
    rw (out.1, out.2) (ap (by_length a.axes a.scale a.p) (sym c.in_err-l.was ∙ found) ∙ lifted_by_lem a.axes a.scale a.p)

pub returns : goal.returns
returns c =
    let a = c.args in
    let found = length_is a.axes a.scale a.p _ _ _ c.reach-v.ensures c.dot.ensures c.length_of.ensures in
    ap Ok (c.divided.ensures ∙ ap (divided_by _) c.reach-v.ensures) ∙
    (ap (by_length a.axes a.scale a.p) (sym c.in_ok-l.was ∙ found) ∙ lifted_by_lem a.axes a.scale a.p)
