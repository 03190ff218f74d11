-- Document 01's checked places under "Rounding": a point, and what rounding it replies.
use Rattle.std.specs.Prelude.{List, [], ◌∷◌, ℕ, Float}
use Rattle.reply.specs.declared.Refusal.TheVariants.{TooFar}
use Rattle.reply.specs.Replies.{Reply, answer, refusal}
use Rattle.double.specs.Double.{decimal, minus}
use Rattle.vec2d.specs.declared.Vec2d.{Vec2d}
use Rattle.vec2d.specs.Points.{point}

pub record Case : Type 0 where
  pub from : Vec2d
  pub said : Reply

abbrev at : Float → Float → Reply → Case
at x y r = record { from = point x y; said = r }

abbrev place : ℕ → ℕ → ℕ → Reply
place i j k = answer (i ∷ j ∷ k ∷ [])

abbrev pub cases : List Case
cases =
    at (decimal 0 0) (decimal 0 0) (place 0 0 0)
    ∷ at (decimal 1 0) (decimal 0 0) (place 1 0 0)
    ∷ at (minus 1 0) (decimal 0 0) (place 0 1 1)
    ∷ at (decimal 5 1) (decimal 0 0) (place 1 0 0)
    ∷ at (minus 5 1) (decimal 0 0) (place 0 1 1)
    ∷ at (decimal 49 2) (decimal 0 0) (place 0 0 0)
    ∷ at (decimal 9 1) (decimal 9 1) (place 1 1 0)
    ∷ at (decimal 9 1) (minus 9 1) (place 1 0 1)
    ∷ at (minus 9 1) (decimal 9 1) (place 0 1 0)
    ∷ at (minus 9 1) (minus 9 1) (place 0 0 1)
    ∷ at (decimal 33554432 0) (decimal 0 0) (refusal 3 TooFar)
    ∷ []
