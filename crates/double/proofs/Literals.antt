-- Each number that the paper names is its decimal, rounded to the nearest double. Assumes nothing.
use mathlib.Core.Path.{◌≡◌, refl}
use mathlib.Core.List.{List, [], ◌∷◌}
use lib.Ieee.{Float, round, of_bits}
use Rattle.double.specs.Double.{decimal, nought, quarter, half, one, one_and_half, two, two_and_half, three, rsin60, sin60, limit, tolerance, sphere_low, sphere_high}

abbrev named : List Float
named =
    nought
    ∷ quarter
    ∷ half
    ∷ one
    ∷ one_and_half
    ∷ two
    ∷ two_and_half
    ∷ three
    ∷ rsin60
    ∷ sin60
    ∷ limit
    ∷ tolerance
    ∷ sphere_low
    ∷ sphere_high
    ∷ []

abbrev decimals : List Float
decimals =
    decimal 0 0
    ∷ decimal 25 2
    ∷ decimal 5 1
    ∷ decimal 1 0
    ∷ decimal 15 1
    ∷ decimal 2 0
    ∷ decimal 25 1
    ∷ decimal 3 0
    ∷ decimal 11547005383792515 16
    ∷ decimal 8660254037844386 16
    ∷ decimal 33554432 0
    ∷ decimal 11920928955078125 23
    ∷ decimal 9999999999990905052982270717620849609375 40
    ∷ decimal 10000000000009094947017729282379150390625 40
    ∷ []

pub literals : named ≡ decimals
unfolding of_bits round
literals = refl
