-- `margin::reach` meets its contract: the greatest of three gaps. Assumes nothing.
use Rattle.margin.specs.Margins.{reach_in}
use Rattle.margin.proofs.reach.Goals as goal

pub returns-clause-reaches : goal.returns-clause-reaches
unfolding reach_in
returns-clause-reaches c =
    rw (c.max-2.ensures, c.max.ensures, c.gap-along_ij.ensures, c.gap-along_j.ensures, c.gap-along_i.ensures, c.step-j.ensures.steps, c.step-i.ensures.steps)
