-- Two outcomes of a boundary's call that meet one promise coincide: the number it returns, and what both lent slices then hold. Assumes nothing.
use mathlib.Core.Path.{◌≡◌}
use mathlib.Core.Bool.{◌||◌}
use mathlib.Core.List.{List}
use Prim.Native.Nat.{ℕ}
use lib.Dec.{ltb}
use lib.ListN.{length}
use Rattle.reply.specs.Replies.{Reply}
use Rattle.lent.specs.Lent.{number_for}
use Rattle.lent.proofs.Unique.{one_gives_both}
use Rattle.lent_borders.specs.Borders.{marks_of, points_of, GivesBoundary}

pub one_gives_boundary : (r : Reply) (marks points : List ℕ) {a b c d : List ℕ} {k l : ℕ}
    → GivesBoundary r marks a points c k → GivesBoundary r marks b points d l → (k ≡ l) × (a ≡ b) × (c ≡ d)
one_gives_boundary r marks points =
    one_gives_both (number_for (ltb (length marks) 25 || ltb (length points) 24) r) 25 (marks_of r.values) marks 24 (points_of r.values) points
