-- Two outcomes of the writer that meet one promise coincide, and the refusal given is the foremost. Assumes nothing.
use mathlib.Core.Path.{◌≡◌, refl}
use mathlib.Core.List.{List, []}
use Prim.Native.Nat.{ℕ}
use native.Mathlib.Omega.{arith}
use lib.IntN.{ℤ}
use Rattle.reply.specs.Replies.{Verdict}
use Rattle.reply.specs.Order.{Foremost}
use Rattle.reply.proofs.Entries.{one_said}
use Rattle.reply.proofs.Foremost.{foremost}
use Rattle.region_write.specs.Writing.{said_written, write_reasons, write_verdict}

-- The bytes are named by the promise itself; the answer is one.
pub one_written : (a b : Verdict) → said_written a ≡ said_written b → a ≡ b
one_written = one_said 0 (λ u. []) (λ u v e. refl)

pub write_foremost : (level : ℕ) (rows : List ℤ) (outs : ℕ) → Foremost (write_reasons level rows outs) (write_verdict level rows outs)
write_foremost level rows outs = foremost 0 (write_reasons level rows outs) (omega arith, (omega arith, (omega arith, tt)))
