-- Two outcomes of the root that meet one promise coincide, and its refusal is the foremost that applies. Assumes nothing.
use mathlib.Core.Path.{◌≡◌}
use native.Mathlib.Omega.{arith}
use lib.Dec.{T}
use lib.Ieee.{Float, binary64, fits}
use Rattle.reply.specs.declared.Refusal.{Refusal}
use Rattle.std.specs.Prelude.{Result}
use Rattle.reply.specs.Order.{Foremost}
use Rattle.reply.proofs.Foremost.{foremost}
use Rattle.reply.proofs.Entries.{WhereGiven, one_said_where}
use Rattle.double.proofs.Sign.{same_bits}
use Rattle.root.specs.Root.{root_reasons, root_verdict, said_rooted}

-- An answer that a program holds: a value of the format, as every f64 is.
abbrev HeldNumber : Float → Type 0
HeldNumber x = T (fits binary64 x)

abbrev pub Held : Result Float Refusal → Type 0
Held = WhereGiven HeldNumber

pub one_rooted : (a b : Result Float Refusal) → Held a → Held b → said_rooted a ≡ said_rooted b → a ≡ b
one_rooted = one_said_where HeldNumber 1 _ (λ x y f g v. same_bits x y f g (cc))

pub root_foremost : (x : Float) → Foremost (root_reasons x) (root_verdict x)
root_foremost x = foremost 0 (root_reasons x) (omega arith, tt)
