-- `pair_at` meets its contract. Assumes nothing.
use native.Mathlib.Numerals.{add-one}
use Rattle.vec3d.specs.AsAsked.{pair_of}
use Rattle.vec3d.proofs.pair_at.Goals as goal

pub returns : goal.returns
unfolding pair_of
returns c = rw (c.closer.ensures, add-one)
