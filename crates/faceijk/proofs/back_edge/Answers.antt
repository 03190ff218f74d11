-- `back_edge` meets its contract: the table of neighbours leads back so. Assumes nothing.
use mathlib.Core.Path.{◌≡◌}
use Rattle.faceijk.specs.Faces.{face_over, dir_to}
use Rattle.faceijk.proofs.Faces.{back_over, mate_over}
use Rattle.faceijk.proofs.back_edge.Goals as goal

pub returns-then-edge-is_polar : goal.returns-then-edge-is_polar
returns-then-edge-is_polar c =
    let back : dir_to (face_over c.args.face c.args.edge) c.args.face ≡ back_over c.args.face c.args.edge = let pre = c.requires in (mate_over c.args.edge pre.1 pre.2 c.args.face pre.0).back in
    rw (back, ← c.is_polar.ensures, c.if-edge-is_polar.true)

pub returns-else-edge-is_polar : goal.returns-else-edge-is_polar
returns-else-edge-is_polar c =
    let back : dir_to (face_over c.args.face c.args.edge) c.args.face ≡ back_over c.args.face c.args.edge = let pre = c.requires in (mate_over c.args.edge pre.1 pre.2 c.args.face pre.0).back in
    rw (back, ← c.is_polar.ensures, c.if-edge-is_polar.false)
