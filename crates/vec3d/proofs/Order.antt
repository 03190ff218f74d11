-- The refusal that an entry gives is the foremost that applies: its reasons stand in the order. Assumes nothing.
use mathlib.Core.List.{List}
use native.Mathlib.Omega.{arith}
use lib.Ieee.{Float}
use Rattle.reply.specs.Order.{Foremost, Ascending}
use Rattle.reply.proofs.Foremost.{foremost}
use Rattle.vec3d.specs.declared.Vec3d.{Vec3d}
use Rattle.vec3d.specs.Vectors.{vector_reasons, vector_verdict}
use Rattle.vec3d.specs.Nearest.{nearest_reasons, nearest_verdict}

pub vector_ascending : (p : Vec3d) → Ascending 0 (vector_reasons p)
vector_ascending p = (omega arith, (omega arith, tt))

pub vector_foremost : (p : Vec3d) → Foremost (vector_reasons p) (vector_verdict p)
vector_foremost p = foremost 0 (vector_reasons p) (vector_ascending p)

pub nearest_ascending : (s : List Float) (p : Vec3d) → Ascending 0 (nearest_reasons s p)
nearest_ascending s p = (omega arith, (omega arith, (omega arith, tt)))

pub nearest_foremost : (s : List Float) (p : Vec3d) → Foremost (nearest_reasons s p) (nearest_verdict s p)
nearest_foremost s p = foremost 0 (nearest_reasons s p) (nearest_ascending s p)
