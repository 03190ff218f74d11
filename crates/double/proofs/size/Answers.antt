-- `double::size` meets its contract: the library's size is the paper's. Assumes nothing.
use mathlib.Core.Path.{◌≡◌, refl, ◌∙◌}
use mathlib.Core.Bool.{false}
use lib.Ieee.{Float, nan, inf, fin}
use Rattle.std.specs.Float.{float_with_sign}
use Rattle.double.specs.Double.{size_of}
use Rattle.double.proofs.size.Goals as goal

same : (x : Float) → float_with_sign false x ≡ size_of x
unfolding float_with_sign
same nan = refl
same (inf s) = refl
same (fin s m e) = refl

pub returns : goal.returns
returns c = c.abs.ensures.value ∙ same c.args.x
