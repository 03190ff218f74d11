-- Numbers below 2^31 as signed numbers, and minus a refusal. Assumes nothing.
use mathlib.Core.Path.{◌≡◌, refl}
use mathlib.Core.Bool.{true, not}
use Prim.Native.Nat.{ℕ, zero, suc, ◌^◌, ◌<◌}
use native.Mathlib.Nat.{lt_of_le_of_lt}
use native.Mathlib.Omega.{arith}
use lib.IntN.{pos, neg_ℤ, ◌-ℤ◌}
use lib.Dec.{eqb, lit<}
use mir.Syntax.{w32}
use mir.Val.{SFits, to_z}
use mir.ValLaws.{to_z-of_z}
use borrow.Author.Tests.{ne_eqb}
use Rattle.reply.specs.declared.Refusal.{Refusal}
use Rattle.reply.specs.Replies.{number_of}
use Rattle.reply.proofs.Numbers.{number_pos, number_low}
use Rattle.coordijk.proofs.Differences.{diff_neg}

pub seen : (x : ℕ) → x < 2 ^ 31 → to_z w32 x ≡ pos x
seen x h = to_z-of_z w32 (pos x) (record { sfits = h })

pub taken_from_none : (n : ℕ) → pos 0 -ℤ pos n ≡ neg_ℤ (pos n)
taken_from_none zero = refl
taken_from_none (suc n) = diff_neg 0 (suc n) n (omega arith)

pub minus_fits : (n : ℕ) → n < 2 ^ 31 → SFits w32 (neg_ℤ (pos n))
minus_fits zero h = record { sfits = omega arith }
minus_fits (suc n) h = record { sfits = omega arith }

pub number_fits : (r : Refusal) → number_of r < 2 ^ 31
number_fits r = lt_of_le_of_lt (number_low r) (lit< tt)

-- a refusal's number is not 0
pub number_some : (r : Refusal) → not (eqb (number_of r) 0) ≡ true
number_some r = rw (ne_eqb (number_of r) 0 (λ z. omega (arith, number_pos r)))
