-- What is known of a point that rounding accepts: its parts are below 2^25 in size, and both of its coordinates can be split. Assumes nothing.
use mathlib.Core.Path.{◌≡◌, refl, sym, ap, ◌∙◌}
use mathlib.Core.Bool.{true, false, not}
use Prim.Native.Nat.{◌-◌, ◌^◌, ◌<◌}
use native.Mathlib.Omega.{arith}
use lib.Dec.{lit≤}
use lib.Ieee.{Float, binary64, of_bits, div, lt, le}
use borrow.Author.Tests.{not-true, not-false}
use Rattle.reply.specs.Replies.{fine}
use Rattle.reply.proofs.Entries.{passed, neither, both}
use Rattle.double.specs.Double.{finite, size_of, whole_of, limit, rsin60, two}
use Rattle.double.specs.Sizes.{Under, Upto}
use Rattle.double.proofs.Sizes.{size_finite}
use Rattle.double.proofs.Nonnegative.{upto_le, size_upto, product_upto, add_upto, halved_upto, rsin60_upto, whole_le}
use Rattle.double.proofs.Tests.{lt_under, lt_not_le, limit_value, between_lt}
use Rattle.vec2d.specs.declared.Vec2d.{Vec2d}
use Rattle.vec2d.specs.Points.{is_point}
use Rattle.vec2d.specs.Rounding.{too_far, minus_limit, inside, round_verdict, Near, x1_of, x2_of}

-- ---- the two tests

part_near : (x : Float) → finite x ≡ true → le limit (size_of x) ≡ false → Under (2 ^ 25) x
unfolding of_bits
part_near x f h = lt_under (2 ^ 25) x limit limit_value (lt_not_le (size_of x) limit (size_finite x f) refl ∙ ap not h)

-- A point that rounding accepts has parts that are numbers up to 2^25 in size.
pub accepted : (v : Vec2d) → round_verdict v ≡ fine → Near v
unfolding is_point too_far
accepted v e =
    let p = passed (not (is_point v)) _ _ e in
    let q = passed (too_far v) _ _ p.1 in
    let f = both (finite v.x) (finite v.y) (not-false _ p.0) in
    let n = neither (le limit (size_of v.x)) (le limit (size_of v.y)) q.0 in
    record { x = part_near v.x f.0 n.0; y = part_near v.y f.1 n.1 }

-- A part between -2^25 and 2^25 is finite and not too far.
part_inside : (x : Float) → lt x limit ≡ true → lt minus_limit x ≡ true → (finite x ≡ true) × (le limit (size_of x) ≡ false)
unfolding of_bits
part_inside x p q =
    let b = between_lt _ _ x p q in
    (b.0, not-true _ (sym (lt_not_le (size_of x) limit (size_finite x b.0) refl) ∙ b.1))

pub inside_fine : (v : Vec2d) → inside v ≡ true → round_verdict v ≡ fine
unfolding inside is_point too_far
inside_fine v e =
    let a = both _ _ e in
    let b = both _ _ a.0 in
    let c = both _ _ b.0 in
    let x = part_inside v.x c.0 c.1 in
    let y = part_inside v.y b.1 a.1 in
    rw (x.0, y.0, x.1, y.1)

-- ---- the two coordinates: 38745321 is 2^25 · 1.1547005383792515, rounded up

second_tight : (v : Vec2d) → Near v → Upto 38745321 (x2_of v)
unfolding of_bits
second_tight v p = product_upto (2 ^ 25) 38745321 2 (size_of v.y) rsin60 (size_upto (2 ^ 25) v.y p.y) rsin60_upto (lit≤ tt) (lit≤ tt)

-- Neither coordinate is above 2^26 - 1, so that one more than its whole part is a coordinate that is taken.
pub second_upto : (v : Vec2d) → Near v → Upto (2 ^ 26 - 1) (x2_of v)
second_upto v p = upto_le 38745321 (2 ^ 26 - 1) (x2_of v) (lit≤ tt) (second_tight v p)

pub first_upto : (v : Vec2d) → Near v → Upto (2 ^ 26 - 1) (x1_of v)
first_upto v p =
    let x2 = x2_of v in
    let h = halved_upto 19372661 x2 (upto_le 38745321 38745322 x2 (lit≤ tt) (second_tight v p)) (lit≤ tt) in
    upto_le 52927093 (2 ^ 26 - 1) (x1_of v) (lit≤ tt)
    (add_upto (2 ^ 25) 19372661 (size_of v.x) (div binary64 x2 two) (size_upto (2 ^ 25) v.x p.x) h (lit≤ tt))

pub first_whole : (v : Vec2d) → Near v → whole_of (x1_of v) < 2 ^ 26
first_whole v p = omega (arith, whole_le (2 ^ 26 - 1) (x1_of v) (first_upto v p))

pub second_whole : (v : Vec2d) → Near v → whole_of (x2_of v) < 2 ^ 26
second_whole v p = omega (arith, whole_le (2 ^ 26 - 1) (x2_of v) (second_upto v p))
