-- `hexagon` meets its contract: it gives out what the boundary of a hexagon is. Assumes nothing.
use mathlib.Core.Path.{subst}
use Rattle.reply.specs.Replies.{verdict_number}
use Rattle.faceijk.specs.declared.Place.{Place}
use Rattle.vec3d.specs.Frame.{bad_frame}
use Rattle.globe.specs.Boundaries.{globe_reply}
use Rattle.lent.specs.Lent.{bits_of}
use Rattle.lent_globe.specs.Globes.{GivesGlobe}
use Rattle.lent_globe.proofs.hexagon.Goals as goal

pub returns : goal.returns
returns c =
    let a = c.args in
    subst (λ (p : Place). GivesGlobe (bad_frame a.frame.now) (globe_reply 6 a.frame.now p a.level a.start a.length) a.marks.now c.border.new.marks (bits_of a.points.now) (bits_of c.border.new.points) (verdict_number c.border.result))
    c.new.ensures c.border.ensures
