-- From a plane point to a hexagon and what is left over, operation by operation.
use Rattle.reply.specs.declared.Refusal.{Refusal}
use Rattle.std.specs.Prelude.{Bool, true, false, not, ◌&&◌, ◌||◌, List, [], ◌∷◌, ◌++◌, ℕ, ◌+◌, ◌^◌, ℤ, pos, neg_ℤ, ◌-ℤ◌, Float, Result}
use Rattle.std.specs.Float.{binary64}
use Rattle.std.specs.Float.Ieee.{of_bits, to_bits, add, sub, mul, div, lt, le}
use Rattle.reply.specs.Choice.{pick}
use Rattle.reply.specs.declared.Refusal.TheVariants.{BadNumber, TooFar}
use Rattle.reply.specs.Replies.{Reason, when, first, Reply, reply, Verdict, said}
use Rattle.double.specs.Double.{nought, half, one, two, three, rsin60, limit, size_of, whole_of, left_of}
use Rattle.double.specs.Sizes.{Under}
use Rattle.coordijk.specs.declared.CoordIJK.{CoordIJK}
use Rattle.coordijk.specs.Coordinates.{coord_values}
use Rattle.coordijk.specs.Signed.{Signed, signed, reduced_z}
use Rattle.vec2d.specs.declared.Vec2d.{Vec2d}
use Rattle.vec2d.specs.declared.Quantized.{Quantized}
use Rattle.vec2d.specs.declared.Leftovers.{Leftovers}
use Rattle.vec2d.specs.declared.Found.{Found}
use Rattle.vec2d.specs.declared.Steps.{Steps}
use Rattle.vec2d.specs.Points.{is_point}

-- TooFar: size of x or y is 2^25 or more
unfoldable pub too_far : Vec2d → Bool
too_far v = le limit (size_of v.x) || le limit (size_of v.y)

-- both parts between -2^25 and 2^25, as the code asks it first: neither BadNumber nor TooFar
abbrev pub minus_limit : Float
minus_limit = of_bits binary64 0xc180_0000_0000_0000

unfoldable pub inside : Vec2d → Bool
inside v = lt v.x limit && lt minus_limit v.x && lt v.y limit && lt minus_limit v.y

abbrev pub round_reasons : Vec2d → List Reason
round_reasons v = when (not (is_point v)) BadNumber ∷ when (too_far v) TooFar ∷ []

abbrev pub round_verdict : Vec2d → Verdict
round_verdict v = first (round_reasons v)

-- what an accepted point's parts are
pub record Near (v : Vec2d) : Type 0 where
  pub x : Under (2 ^ 25) v.x
  pub y : Under (2 ^ 25) v.y

-- x2 = |y|·1.1547005383792515, x1 = |x| + x2/2
abbrev pub x2_of : Vec2d → Float
x2_of v = mul binary64 (size_of v.y) rsin60

abbrev pub x1_of : Vec2d → Float
x1_of v = add binary64 (size_of v.x) (div binary64 (x2_of v) two)

-- whole parts m1, m2, leftovers r1, r2
unfoldable pub quantized_of : Vec2d → Quantized
quantized_of v = record { m1 = whole_of (x1_of v); m2 = whole_of (x2_of v); r1 = left_of (x1_of v); r2 = left_of (x2_of v) }

-- whether i is m1 + 1, and whether j is m2 + 1
abbrev pub steps : Bool → Bool → Steps
steps i j = record { i = i; j = j }

-- What the branches compare the leftovers with: r1 with 1/3, 1/2 and 2/3, and r2 with five numbers that go by r1.
abbrev pub third : Float
third = div binary64 one three

abbrev pub halfway : Float
halfway = half

abbrev pub thirds : Float
thirds = div binary64 two three

abbrev pub middle_of : Float → Float
middle_of r1 = div binary64 (add binary64 one r1) two

abbrev pub rest_of : Float → Float
rest_of r1 = sub binary64 one r1

abbrev pub twice_of : Float → Float
twice_of r1 = mul binary64 two r1

-- `mul_add(2.0, r1, -1.)`, which has the same bits rounded once or twice (`once_or_twice` of proofs/Exact)
abbrev pub less_one_of : Float → Float
less_one_of r1 = sub binary64 (mul binary64 two r1) one

abbrev pub halved_of : Float → Float
halved_of r1 = div binary64 r1 two

-- The branches in the source's order: four stripes of r1, and in each one test for i and one for j.
--   r1          i is m1 + 1 where               j is m2 + 1 where
--   below 1/3   never                           r2 ≥ (1 + r1)/2
--   below 1/2   r2 ≥ 1 - r1 and r2 < 2·r1       r2 ≥ 1 - r1
--   below 2/3   r2 ≤ 2·r1 - 1 or r2 ≥ 1 - r1    r2 ≥ 1 - r1
--   the rest    always                          r2 ≥ r1/2
unfoldable pub steps_of : Float → Float → Steps
steps_of r1 r2 =
    let past = le (rest_of r1) r2 in
    let below_third = steps false (le (middle_of r1) r2) in
    let below_half = steps (past && lt r2 (twice_of r1)) past in
    let below_two_thirds = steps (le r2 (less_one_of r1) || past) past in
    let rest = steps true (le (halved_of r1) r2) in
    pick (lt r1 halfway) (pick (lt r1 third) below_third below_half) (pick (lt r1 thirds) below_two_thirds rest)

abbrev pub raised_by : Bool → ℕ → ℕ
raised_by b m = pick b (m + 1) m

-- The folds: for x < 0 the first coordinate becomes j - i, and for y < 0 it becomes i - j while j changes sign. They mirror the hexagon, whose centre lies at
-- x = i - j/2 and y = j·sin 60°: with j - i beside j only x changes its sign, with i - j beside -j only y (proofs/Mirror). The source has an offset for j's
-- parity, which cancels (specs/SourceFolds).
abbrev pub folded : Bool → Bool → ℤ → ℤ → Signed
folded left down i j =
    let across = pick left (j -ℤ i) i in
    signed (pick down (across -ℤ j) across) (pick down (neg_ℤ j) j) (pos 0)

unfoldable pub fold_of : Bool → Bool → ℕ → ℕ → CoordIJK
fold_of left down i j = reduced_z (folded left down (pos i) (pos j))

-- The hexagon of an accepted point. Minus zero is not below zero.
unfoldable pub nearest_of : Vec2d → CoordIJK
nearest_of v =
    let q = quantized_of v in
    let s = steps_of q.r1 q.r2 in
    fold_of (lt v.x nought) (lt v.y nought) (raised_by s.i q.m1) (raised_by s.j q.m2)

-- Both leftovers, as the doubles that the branches saw.
abbrev pub leftovers : Float → Float → Leftovers
leftovers r1 r2 = record { r1 = r1; r2 = r2 }

abbrev pub leftovers_of : Vec2d → Leftovers
leftovers_of v = leftovers (quantized_of v).r1 (quantized_of v).r2

abbrev pub found_of : Vec2d → Found
found_of v = record { hexagon = nearest_of v; left = leftovers_of v }

-- a hexagon and its leftovers as a reply's values: i, j, k, and the bits of r1 and r2
abbrev pub left_values : Leftovers → List ℕ
left_values l = to_bits binary64 l.r1 ∷ to_bits binary64 l.r2 ∷ []

abbrev pub found_values : Found → List ℕ
found_values c = coord_values c.hexagon ++ left_values c.left

-- the entry, in the paper's numbers: a refusal has zeros for the leftovers too
abbrev pub said_rounded : Result Found Refusal → Reply
said_rounded = said 5 found_values

abbrev pub round_reply : Vec2d → Reply
round_reply v = reply 5 (round_verdict v) (found_values (found_of v))

-- its whole numbers alone, as document 01 has the entry
abbrev pub hexagon_reply : Vec2d → Reply
hexagon_reply v = reply 3 (round_verdict v) (coord_values (nearest_of v))
