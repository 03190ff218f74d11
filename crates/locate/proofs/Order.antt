-- The refusal that an entry gives is the foremost that applies: its reasons stand in the order. Assumes nothing.
use mathlib.Core.List.{List}
use Prim.Native.Nat.{ℕ}
use native.Mathlib.Omega.{arith}
use lib.IntN.{ℤ}
use lib.Ieee.{Float}
use Rattle.reply.specs.Order.{Foremost, Ascending}
use Rattle.reply.proofs.Foremost.{foremost}
use Rattle.vec3d.specs.declared.Vec3d.{Vec3d}
use Rattle.locate.specs.Locating.{locate_reasons, locate_verdict}
use Rattle.locate.specs.Batch.{batch_reasons, batch_verdict}

pub locate_ascending : (s : List Float) (l : ℕ) (p : Vec3d) → Ascending 0 (locate_reasons s l p)
locate_ascending s l p = (omega arith, (omega arith, (omega arith, (omega arith, (omega arith, (omega arith, tt))))))

pub locate_foremost : (s : List Float) (l : ℕ) (p : Vec3d) → Foremost (locate_reasons s l p) (locate_verdict s l p)
locate_foremost s l p = foremost 0 (locate_reasons s l p) (locate_ascending s l p)

pub batch_ascending : (s : List Float) (l : ℕ) (input : List Float) (out : List ℤ) (start : ℕ) → Ascending 0 (batch_reasons s l input out start)
batch_ascending s l input out start = (omega arith, (omega arith, (omega arith, tt)))

pub batch_foremost : (s : List Float) (l : ℕ) (input : List Float) (out : List ℤ) (start : ℕ)
    → Foremost (batch_reasons s l input out start) (batch_verdict s l input out start)
batch_foremost s l input out start = foremost 0 (batch_reasons s l input out start) (batch_ascending s l input out start)
