-- `vec2d::chosen` meets its contract: stripe by stripe. Assumes nothing.
use Rattle.vec2d.specs.Rounding.{steps_of}
use Rattle.vec2d.proofs.chosen.Goals as goal

pub returns : goal.returns
unfolding steps_of
returns c =
    rw (c.either-3.ensures, c.either-2.ensures, c.either.ensures, c.new-rest.ensures, c.new-below_two_thirds.ensures, c.new-below_half.ensures, c.new-below_third.ensures)
