-- `FaceProjection::new` meets its contract. Assumes nothing.
use Rattle.face_projection.specs.Projection.{projection_of}
use Rattle.face_projection.proofs.FaceProjection.new.Goals as goal

pub returns : goal.returns
unfolding projection_of
returns c = rw (c.dot-2.ensures, c.dot.ensures, c.dot-below.ensures)
