-- `pentagon` meets its contract: it gives out what the boundary of a pentagon is. Assumes nothing.
use mathlib.Core.Path.{subst, ap, ◌∙◌}
use Rattle.reply.specs.Replies.{Reply, verdict_number}
use Rattle.faceijk.specs.declared.Place.{Place}
use Rattle.boundary.specs.Boundaries.{boundary_reply}
use Rattle.lent.specs.Lent.{bits_of}
use Rattle.lent_borders.specs.Borders.{GivesBoundary}
use Rattle.lent_borders.proofs.pentagon.Goals as goal

pub returns : goal.returns
returns c =
    let a = c.args in
    subst (λ (r : Reply). GivesBoundary r a.marks.now c.give.new.marks (bits_of a.points.now) (bits_of c.give.new.points) (verdict_number c.give.result))
    (c.pentagon_boundary-border.ensures ∙ ap (λ (p : Place). boundary_reply 5 p a.level a.start a.length) c.new.ensures) c.give.ensures
