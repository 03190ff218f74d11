-- `Vec2d::nearest` meets its contract: quantized, chosen, raised, folded. Assumes nothing.
use Rattle.vec2d.specs.Rounding.{nearest_of}
use Rattle.vec2d.proofs.Vec2d.nearest.Goals as goal

pub returns : goal.returns
unfolding nearest_of
returns c =
    rw (c.fold-hexagon.ensures, c.raised-2.ensures.raises, c.raised.ensures.raises, c.chosen-s.ensures, c.quantize-q.ensures.quantizes)
