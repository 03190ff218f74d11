-- `radicand` meets its contract: a subnormal pattern is shifted until it has 53 digits. Assumes nothing.
use mathlib.Core.Path.{ap, ◌∙◌, subst}
use Prim.Native.Nat.{ℕ, ◌-◌, ◌*◌, ◌^◌, ◌≤◌}
use lib.Count.{count_leading_zeros}
use Rattle.root.specs.AsWorked.{Scaling}
use native.Mathlib.Omega.{arith}
use Rattle.root.proofs.Scale.{Shifted, shifted, shl_is, low_units, high_units}
use Rattle.root.proofs.radicand.Goals as goal

pub overflow_sub-z : goal.overflow_sub-z
overflow_sub-z c = (shifted c.args.b c.requires.0 c.if-b-lt4503599627370496.true).1

pub even-requires : goal.even-requires
even-requires c =
    let made : Shifted c.args.b (count_leading_zeros 64 c.args.b - 11) × (11 ≤ count_leading_zeros 64 c.args.b) = shifted c.args.b c.requires.0 c.if-b-lt4503599627370496.true in
    let s = made.0 in
    rw (shl_is _ _ s) (s.least, s.most, omega (arith, s.few), omega arith)

pub returns-then-b-lt4503599627370496 : goal.returns-then-b-lt4503599627370496
returns-then-b-lt4503599627370496 c =
    let made : Shifted c.args.b (count_leading_zeros 64 c.args.b - 11) × (11 ≤ count_leading_zeros 64 c.args.b) = shifted c.args.b c.requires.0 c.if-b-lt4503599627370496.true in
    let s = made.0 in
    subst (λ (n : ℕ). Scaling n c.even.result.digits.m c.even.result.power)
    (ap (λ (k : ℕ). k * 2 ^ (1074 - (count_leading_zeros 64 c.args.b - 11))) (shl_is _ _ s) ∙ low_units _ _ c.if-b-lt4503599627370496.true s.few)
    (rw c.from.ensures at c.even.ensures)

pub returns-else-b-lt4503599627370496 : goal.returns-else-b-lt4503599627370496
returns-else-b-lt4503599627370496 c =
    subst (λ (n : ℕ). Scaling n c.even-else-b-lt4503599627370496.result.digits.m c.even-else-b-lt4503599627370496.result.power) (high_units _ c.if-b-lt4503599627370496.false) c.even-else-b-lt4503599627370496.ensures
