-- `margin::parts` meets its contract: the parts fit 64 bits. Assumes nothing.
use Rattle.margin.specs.Margins.{parts_of}
use Rattle.margin.proofs.Counting.{parts_upto, parts_low, in_range}
use Rattle.margin.proofs.parts.Goals as goal

pub truncating_f64_to_u64-requires-clause-lower_bound : goal.truncating_f64_to_u64-requires-clause-lower_bound
truncating_f64_to_u64-requires-clause-lower_bound c = (in_range _ (parts_upto c.args.r c.requires)).0

pub truncating_f64_to_u64-requires-clause-upper_bound : goal.truncating_f64_to_u64-requires-clause-upper_bound
truncating_f64_to_u64-requires-clause-upper_bound c = (in_range _ (parts_upto c.args.r c.requires)).1

pub returns-clause-counts : goal.returns-clause-counts
unfolding parts_of
returns-clause-counts c = c.truncating_f64_to_u64.ensures

pub returns-clause-bounded : goal.returns-clause-bounded
unfolding parts_of
returns-clause-bounded c = rw c.truncating_f64_to_u64.ensures (parts_low c.args.r c.requires)
