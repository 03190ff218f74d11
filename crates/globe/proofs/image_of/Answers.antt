-- `image_of` meets its contract: the rule of one point, with the face and the mark. Assumes nothing.
use mathlib.Core.Path.{sym, ap, ◌∙◌}
use native.Mathlib.Omega.{arith}
use Rattle.std.specs.Prelude.{Ok}
use Rattle.vec3d.proofs.Passing.{passed_long}
use Rattle.globe.proofs.Images.{as_image, image_is}
use Rattle.globe.proofs.image_of.Goals as goal

pub face_at-requires : goal.face_at-requires
face_at-requires c = omega (arith, c.requires.1, passed_long c.args.frame.now c.requires.0)

pub returns : goal.returns
returns c =
    let a = c.args in
    ap Ok c.on.ensures ∙
    (ap (as_image _ _) (sym c.in_ok-v.was) ∙ image_is a.frame.now a.scale a.p _ _ _ c.face_at.ensures c.new.ensures c.lift.ensures)
