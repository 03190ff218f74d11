-- The face nearest to a vector. Document 01: "Strictly smaller wins, so ties go to the lowest face. It returns face and distance."
use Rattle.reply.specs.declared.Refusal.{Refusal}
use Rattle.std.specs.Prelude.{List, [], ◌∷◌, ℕ, zero, suc, Float, Result}
use Rattle.std.specs.Float.{binary64}
use Rattle.std.specs.Float.Ieee.{lt, to_bits}
use Rattle.reply.specs.Choice.{pick}
use Rattle.reply.specs.declared.Refusal.TheVariants.{BadFrame}
use Rattle.reply.specs.Replies.{Reply, Reason, when, first, reply, Verdict, said}
use Rattle.vec3d.specs.declared.Vec3d.{Vec3d}
use Rattle.vec3d.specs.declared.Nearest.{Nearest}
use Rattle.vec3d.specs.Vectors.{dot_of, minus_of, vector_reasons}
use Rattle.vec3d.specs.Frame.{face_at, bad_frame}

-- the squared distance is the dot product with itself of vector minus centre
unfoldable pub distance_of : List Float → Vec3d → ℕ → Float
distance_of s p f = dot_of (minus_of p (face_at s f).centre) (minus_of p (face_at s f).centre)

-- a face takes the place of the one found so far only if it is strictly nearer
unfoldable pub closer_of : Nearest → ℕ → Float → Nearest
closer_of best f d = pick (lt d best.distance) (record { face = f; distance = d }) best

-- the nearest of the faces 0 .. f by their squared distances
unfoldable pub nearest_by : (ℕ → Float) → ℕ → Nearest
nearest_by d zero = record { face = 0; distance = d 0 }
nearest_by d (suc f) = closer_of (nearest_by d f) (suc f) (d (suc f))

abbrev pub nearest_to : List Float → Vec3d → ℕ → Nearest
nearest_to s p = nearest_by (distance_of s p)

-- the entry, in the paper's numbers: face and squared distance
abbrev pub nearest_reasons : List Float → Vec3d → List Reason
nearest_reasons s p = when (bad_frame s) BadFrame ∷ vector_reasons p

abbrev pub nearest_verdict : List Float → Vec3d → Verdict
nearest_verdict s p = first (nearest_reasons s p)

abbrev pub nearest_values : Nearest → List ℕ
nearest_values n = n.face ∷ to_bits binary64 n.distance ∷ []

abbrev pub said_nearest : Result Nearest Refusal → Reply
said_nearest = said 2 nearest_values

abbrev pub nearest_reply : List Float → Vec3d → Reply
nearest_reply s p = reply 2 (nearest_verdict s p) (nearest_values (nearest_to s p 19))
