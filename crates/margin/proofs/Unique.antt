-- Two outcomes of the margin that meet its promise coincide. Assumes nothing.
use Rattle.reply.specs.declared.Refusal.{Refusal}
use Rattle.std.specs.Prelude.{Result}
use Rattle.std.proofs.Common.{◌≡◌, T}
use lib.Ieee.{Float, binary64, fits}
use Rattle.reply.proofs.Entries.{WhereGiven, one_said_where}
use Rattle.double.proofs.Sign.{same_bits}
use Rattle.margin.specs.Margins.{said_margin}

-- A margin that a program holds: it is a value of the format, as every f64 is.
abbrev HeldNumber : Float → Type 0
HeldNumber x = T (fits binary64 x)

abbrev pub HeldIn : Result Float Refusal → Type 0
HeldIn = WhereGiven HeldNumber

-- Two margins that a program holds, or refusals, that say the same are one.
pub one_margined : (a b : Result Float Refusal) → HeldIn a → HeldIn b → said_margin a ≡ said_margin b → a ≡ b
one_margined = one_said_where HeldNumber 1 _ (λ x y f g v. same_bits x y f g (cc))
