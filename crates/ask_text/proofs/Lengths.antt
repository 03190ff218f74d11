-- How long the values get: none has more than 20 bytes. Assumes nothing.
use mathlib.Core.Bool.{Bool, true, false}
use mathlib.Core.List.{List, ◌∷◌}
use Prim.Native.Nat.{ℕ, ◌≤◌, ◌<◌}
use native.Mathlib.Omega.{arith}
use lib.Dec.{eqb}
use lib.ListN.{length}
use Rattle.reply.specs.Choice.{pick}
use Rattle.text.specs.Numbers.{space}
use Rattle.text.proofs.Decimals.{short20}
use Rattle.text.proofs.Hexadecimals.{hex_length}
use Rattle.ask_text.specs.declared.Kind.{Kind}
use Rattle.ask_text.specs.Texts.{overage_text, agreed_text, mark_text, kind_text, kind_of, value_text, field_text}

-- x has at most n bytes
record Upto (n : ℕ) (x : List ℕ) : Type 0 where
  short : length x ≤ n

either : (b : Bool) {n : ℕ} {x y : List ℕ} → Upto n x → Upto n y → Upto n (pick b x y)
either true h g = h
either false h g = g

kind_short : (kind : Kind) (v : ℕ) → v < 18446744073709551616 → Upto 20 (kind_text kind v)
unfolding overage_text agreed_text mark_text
kind_short Kind.Number v h = record { short = short20 v h }
kind_short Kind.Double v h = record { short = omega (arith, hex_length v) }
kind_short Kind.Overage v h =
    either (eqb v 0) (record { short = omega arith }) (either (eqb v 1) (record { short = omega arith }) (record { short = omega arith }))
kind_short Kind.Agreed v h = either (eqb v 1) (record { short = omega arith }) (record { short = omega arith })
kind_short Kind.Mark v h = either (eqb v 1) (record { short = omega arith }) (record { short = omega arith })

value_short : (kind v : ℕ) → v < 18446744073709551616 → Upto 20 (value_text kind v)
unfolding value_text
value_short kind v h = kind_short (kind_of kind) v h

-- with the space before it 21
spaced : (b : Bool) (x : List ℕ) → Upto 20 x → length (pick b x (space ∷ x)) ≤ 21
spaced true x h = omega (arith, h.short)
spaced false x h = omega (arith, h.short)

pub field_short : (k kind v : ℕ) → v < 18446744073709551616 → length (field_text k kind v) ≤ 21
unfolding field_text
field_short k kind v h = spaced (eqb k 0) (value_text kind v) (value_short kind v h)
