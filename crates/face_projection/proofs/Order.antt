-- The refusal that the entry gives is the foremost that applies: its reasons stand in the order. Assumes nothing.
use mathlib.Core.List.{List}
use Prim.Native.Nat.{ℕ}
use native.Mathlib.Omega.{arith}
use lib.Ieee.{Float}
use Rattle.reply.specs.Order.{Foremost, Ascending}
use Rattle.reply.proofs.Foremost.{foremost}
use Rattle.vec3d.specs.declared.Vec3d.{Vec3d}
use Rattle.face_projection.specs.Projection.{plane_reasons, plane_verdict}

pub plane_ascending : (s : List Float) (f l : ℕ) (p : Vec3d) → Ascending 0 (plane_reasons s f l p)
plane_ascending s f l p = (omega arith, (omega arith, (omega arith, (omega arith, (omega arith, (omega arith, tt))))))

pub plane_foremost : (s : List Float) (f l : ℕ) (p : Vec3d) → Foremost (plane_reasons s f l p) (plane_verdict s f l p)
plane_foremost s f l p = foremost 0 (plane_reasons s f l p) (plane_ascending s f l p)
