-- The default frame passes the test of frames, by computation: what is promised of frames that pass is promised of one at least. Assumes nothing.
use mathlib.Core.Path.{◌≡◌, refl}
use mathlib.Core.Bool.{false}
use lib.Ieee.{of_bits, add, sub, mul, neg, sum, round, lt, le, eq}
use Rattle.double.specs.Double.{mul_add_of}
use Rattle.vec3d.specs.Vectors.{dot_of}
use Rattle.vec3d.specs.Frame.{vec_at, some_below, bad_frame}
use Rattle.vec3d.specs.AsAsked.{near_one, doubtful}
use Rattle.vec3d.proofs.Doubt.{no_doubt}
use Rattle.frame.specs.Default.{default_frame}

pub default_passes : bad_frame default_frame ≡ false
unfolding default_frame some_below doubtful near_one dot_of mul_add_of vec_at add sub mul neg sum round lt le eq of_bits
default_passes = no_doubt default_frame refl refl
