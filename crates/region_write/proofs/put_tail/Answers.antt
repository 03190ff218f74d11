-- `put_tail` meets its contract: the starts, the level, the count. Assumes nothing.
use mathlib.Core.Path.{◌∙◌}
use Rattle.region_write.specs.Signed.{place_in}
use Rattle.region_write.proofs.Putting.{tail_put}
use Rattle.region_write.proofs.put_tail.Goals as goal

pub returns : goal.returns
returns c =
    c.put_pair.ensures
    ∙ tail_put (place_in c.args.rows.now) c.args.count c.args.level.0 c.args.out.now _ c.requires.count_bound.1 c.put_starts.ensures.rows
