-- What rounding gives is taken by every later entry: it is reduced, and no coordinate is above 2^26. Assumes nothing.
use mathlib.Core.Path.{◌≡◌, sym, subst}
use mathlib.Core.Bool.{Bool, true, false}
use Prim.Native.Nat.{ℕ, ◌+◌, ◌^◌, ◌≤◌, ◌<◌, max}
use native.Mathlib.Omega.{arith}
use lib.Ieee.{lt}
use Rattle.reply.specs.Replies.{fine}
use Rattle.double.specs.Double.{nought}
use Rattle.coordijk.specs.Coordinates.{largest_of, reduced, not_reduced, Taken}
use Rattle.coordijk.proofs.Reducing.{reduced_flat}
use Rattle.coordijk.proofs.Taking.{passes}
use Rattle.vec2d.specs.declared.Vec2d.{Vec2d}
use Rattle.vec2d.specs.Rounding.{round_verdict, Near, quantized_of, steps_of, raised_by, nearest_of}
use Rattle.vec2d.proofs.Accepted.{accepted, first_whole, second_whole}
use Rattle.vec2d.proofs.Folding.{lifted_of, lifted}

largest_le : (a b c n : ℕ) → a ≤ n → b ≤ n → c ≤ n → max a (max b c) ≤ n
largest_le a b c n p q r = omega arith

-- a triple whose coordinates exceed the least by at most n reduces to one with none above n
reduced_small : (a b c : ℕ) → (a ≤ 67108864 + b × a ≤ 67108864 + c × b ≤ 67108864 + a × b ≤ 67108864 + c × c ≤ 67108864 + a × c ≤ 67108864 + b)
    → largest_of (reduced a b c) ≤ 67108864
unfolding reduced
reduced_small a b c h = largest_le _ _ _ 67108864 (omega arith) (omega arith) (omega arith)

fold_taken : (l d : Bool) (i j : ℕ) → i ≤ 2 ^ 26 → j ≤ 2 ^ 26 → Taken (lifted_of l d i j)
fold_taken false false i j p q = record { flat = reduced_flat i j 0; low = reduced_small i j 0 (omega arith) }
fold_taken true false i j p q = record { flat = reduced_flat j (i + j) i; low = reduced_small j (i + j) i (omega arith) }
fold_taken false true i j p q = record { flat = reduced_flat i 0 j; low = reduced_small i 0 j (omega arith) }
fold_taken true true i j p q = record { flat = reduced_flat j i (i + j); low = reduced_small j i (i + j) (omega arith) }

raised_le : (b : Bool) (m : ℕ) → m < 2 ^ 26 → raised_by b m ≤ 2 ^ 26
raised_le true m h = omega arith
raised_le false m h = omega arith

near_taken : (v : Vec2d) → Near v → Taken (nearest_of v)
unfolding nearest_of quantized_of
near_taken v p =
    let q = quantized_of v in
    let s = steps_of q.r1 q.r2 in
    subst Taken (sym (lifted (lt v.x nought) (lt v.y nought) (raised_by s.i q.m1) (raised_by s.j q.m2)))
    (fold_taken (lt v.x nought) (lt v.y nought) _ _ (raised_le s.i q.m1 (first_whole v p)) (raised_le s.j q.m2 (second_whole v p)))

-- Every accepted rounding gives a reduced triple with no coordinate above 2^26.
pub rounded_taken : (v : Vec2d) → round_verdict v ≡ fine → Taken (nearest_of v)
rounded_taken v e = near_taken v (accepted v e)

-- So no later entry refuses it with 10.
pub never_ten : (v : Vec2d) → round_verdict v ≡ fine → not_reduced (nearest_of v) ≡ false
never_ten v e = passes (nearest_of v) (rounded_taken v e)
