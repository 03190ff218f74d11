-- What the calls that are lent a frame return, and what their slices hold afterwards.
use Rattle.std.specs.Prelude.{◌≡◌, List, ℕ, ltb, Float, ℤ, length}
use Rattle.reply.specs.Choice.{pick}
use Rattle.lent.specs.Lent.{held, framed_number}
use Rattle.vec3d.specs.declared.Vec3d.{Vec3d}
use Rattle.vec3d.specs.Frame.{bad_frame}
use Rattle.locate.specs.Batch.{batch_outcome}

-- a vector by its three numbers
abbrev pub vec : Float → Float → Float → Vec3d
vec x y z = record { x = x; y = y; z = z }

-- a batch: what becomes of it where there is room for how many rows were refused; with none nothing is written
pub record GivesBatch (s : List Float) (l : ℕ) (input : List Float) (start : ℕ) (out out₂ : List ℤ) (refused refused₂ : List ℕ) (k : ℕ) : Type 0 where
  pub number : k ≡ framed_number (bad_frame s) (ltb (length refused) 1) (batch_outcome s l input out start).said
  pub rows : out₂ ≡ pick (ltb (length refused) 1) out (batch_outcome s l input out start).rows
  pub count : refused₂ ≡ held k 1 (batch_outcome s l input out start).said.values refused
