-- `settle_in` meets its contract: by what settling by value says. Assumes nothing.
use Rattle.std.proofs.lemmas.Result.{err_from_is_err_and}
use Rattle.in_place.proofs.Lending.{done, kept}
use Rattle.in_place.proofs.settle_in.Goals as goal

pub returns-in_err-rested : goal.returns-in_err-rested
returns-in_err-rested c =
    let a = c.args in
    let out = err_from_is_err_and c.from_residual.result c.from_residual.ensures.1 in
    rw (out.1, out.2) (kept a.p.now a.level.0 a.substrate c.in_err-rested.was c.settle.ensures)

pub returns : goal.returns
returns c =
    let a = c.args in
    done a.p.now a.level.0 a.substrate c.in_ok-rested.was c.settle.ensures
