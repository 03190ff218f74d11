-- How far a point was from the nearest border of its hexagon, in hexagons: the way from one centre to the next is 1, so that the margin is 0 on the border
-- and 1/2 at the centre. It is worked out over whole numbers, which count 2^51sts.
use Rattle.reply.specs.declared.Refusal.{Refusal}
use Rattle.std.specs.Prelude.{ℕ, ◌+◌, ◌-◌, ◌*◌, ◌^◌, max, Bool, not, ◌&&◌, List, [], ◌∷◌, ℤ, pos, ◌-ℤ◌, from_bits, to_bits, Float, Result}
use Rattle.std.specs.Float.{binary64}
use Rattle.std.specs.Float.Ieee.{mul, div, lt, le, of_int}
use Rattle.reply.specs.Choice.{pick}
use Rattle.reply.specs.declared.Refusal.TheVariants.{BadRange}
use Rattle.reply.specs.Replies.{Reason, when, first, Reply, reply, Verdict, said}
use Rattle.double.specs.Double.{nought, one, size_of, whole_of}
use Rattle.vec2d.specs.declared.Leftovers.{Leftovers}
use Rattle.vec2d.specs.declared.Steps.{Steps}
use Rattle.vec2d.specs.Rounding.{steps_of}

-- at least 0 and below 1; minus zero is at least 0
unfoldable pub is_leftover : Float → Bool
is_leftover r = le nought r && lt r one

-- 2^51 and 2^52 as doubles
abbrev pub unit : Float
unit = from_bits binary64 0x4320_0000_0000_0000

abbrev pub two_units : Float
two_units = from_bits binary64 0x4330_0000_0000_0000

-- a leftover in whole 2^51sts
unfoldable pub parts_of : Float → ℕ
parts_of r = whole_of (mul binary64 r unit)

-- how far two numbers are apart: one of the two differences is 0
abbrev pub gap_of : ℕ → ℕ → ℕ
gap_of a b = (a - b) + (b - a)

-- a step up by a unit, or none
abbrev pub step_of : ℕ → Bool → ℕ
step_of unit up = pick up unit 0

-- Leftovers m and n, and the way from one centre to the next, are counted in one unit. From the chosen centre the point lies at a = m - i, b = n - j. The six
-- neighbours lie at (1, 0), (1, 1), (0, 1) and opposite, and half way to each runs a side of the border. Twice the way towards them is 2a - b, a + b, 2b - a,
-- and opposite: the longest of the six, written without a number below zero.
unfoldable pub reach_in : ℕ → ℕ → ℕ → Steps → ℕ
reach_in unit m n s =
    let i = step_of unit s.i in
    let j = step_of unit s.j in
    max (gap_of (2 * m + j) (n + 2 * i)) (max (gap_of (2 * n + i) (m + 2 * j)) (gap_of (m + n) (i + j)))

-- of two leftovers, where the sign of a zero does not count
abbrev pub reach_of : Leftovers → ℕ
reach_of l =
    let r1 = size_of l.r1 in
    let r2 = size_of l.r2 in
    reach_in (2 ^ 51) (parts_of r1) (parts_of r2) (steps_of r1 r2)

-- the margin in 2^52nds, and as a double
abbrev pub margin_in : Leftovers → ℤ
margin_in l = pos (2 ^ 51) -ℤ pos (reach_of l)

unfoldable pub margin_of : Leftovers → Float
margin_of l = div binary64 (of_int binary64 (margin_in l)) two_units

-- BadRange: a leftover that is not at least 0 and below 1, a NaN among them
abbrev pub margin_reasons : Leftovers → List Reason
margin_reasons l = when (not (is_leftover l.r1 && is_leftover l.r2)) BadRange ∷ []

abbrev pub margin_verdict : Leftovers → Verdict
margin_verdict l = first (margin_reasons l)

-- the entry, in the paper's numbers: the margin by its bits
abbrev pub said_margin : Result Float Refusal → Reply
said_margin = said 1 (λ x. to_bits binary64 x ∷ [])

abbrev pub margin_reply : Leftovers → Reply
margin_reply l = reply 1 (margin_verdict l) (to_bits binary64 (margin_of l) ∷ [])
