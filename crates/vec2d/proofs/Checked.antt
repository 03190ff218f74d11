-- Document 01's checked places under "Rounding", all of them as one statement about the definition. Assumes nothing.
use mathlib.Core.Path.{◌≡◌, refl}
use mathlib.Core.List.{map}
use lib.Ieee.{round, add, sub, mul, div, lt, le, of_bits, of_int, to_unsigned}
use Rattle.vec2d.specs.Points.{is_point}
use Rattle.vec2d.specs.Rounding.{too_far, quantized_of, steps_of, fold_of, nearest_of, hexagon_reply}
use Rattle.vec2d.specs.Checked.{Case, cases}

-- Each checked point rounds to what the paper says.
pub checked : map (λ (c : Case). hexagon_reply c.from) cases ≡ map (λ (c : Case). c.said) cases
unfolding is_point too_far nearest_of quantized_of steps_of fold_of round add sub mul div lt le of_bits of_int to_unsigned
checked = refl
