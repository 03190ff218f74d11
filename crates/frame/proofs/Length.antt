-- The default frame has 180 doubles. Assumes nothing.
use mathlib.Core.Path.{◌≡◌, refl}
use lib.ListN.{length}
use Rattle.frame.specs.Default.{default_frame}

pub long : length default_frame ≡ 180
unfolding default_frame
long = refl
