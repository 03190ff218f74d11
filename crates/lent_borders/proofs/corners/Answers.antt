-- `corners` meets its contract: a refusal of the corners is its own. Assumes nothing.
use mathlib.Core.Path.{refl, ap, ◌∙◌}
use Rattle.std.proofs.lemmas.Result.{err_from_is_err_and}
use Rattle.reply.specs.declared.Refusal.TheVariants.{BadRows}
use Rattle.faceijk.specs.declared.Place.{Place}
use Rattle.boundary.specs.Corners.{corners_reply}
use Rattle.lent.proofs.Lent.{refuses}
use Rattle.lent.proofs.Chunk.{chunk}
use Rattle.lent_borders.proofs.corners.Goals as goal

pub returns-in_err-cell : goal.returns-in_err-cell
returns-in_err-cell c =
    let a = c.args in
    let e = err_from_is_err_and c.from_residual-in_err-cell.result c.from_residual-in_err-cell.ensures.1 in
    let k = chunk (λ x. x.now) a.out.now 19 c.first_chunk_mut.result BadRows c.in_ok-values.values c.first_chunk_mut.ensures.cases c.in_ok-values.ensures.value in
    rw (e.1, e.2, k.1) (refuses 19 a.out.now k.0 _ c.in_err-cell.field-0.0 _ (c.in_err-cell.ensures ∙ ap (λ (p : Place). corners_reply p a.level) c.new.ensures) refl)
