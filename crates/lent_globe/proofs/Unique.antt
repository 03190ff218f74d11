-- Two outcomes of a call for a boundary on the sphere that meet one promise coincide: the number it returns, and what both lent slices then hold. Assumes nothing.
use mathlib.Core.Path.{◌≡◌}
use mathlib.Core.Bool.{Bool, ◌||◌}
use mathlib.Core.List.{List}
use Prim.Native.Nat.{ℕ}
use lib.Dec.{ltb}
use lib.ListN.{length}
use Rattle.reply.specs.Replies.{Reply}
use Rattle.lent.specs.Lent.{framed_number}
use Rattle.lent.proofs.Unique.{one_gives_both}
use Rattle.lent_globe.specs.Globes.{marks_of, vectors_of, GivesGlobe}

pub one_gives_globe : (bad : Bool) (r : Reply) (marks points : List ℕ) {a b c d : List ℕ} {k l : ℕ}
    → GivesGlobe bad r marks a points c k → GivesGlobe bad r marks b points d l → (k ≡ l) × (a ≡ b) × (c ≡ d)
one_gives_globe bad r marks points =
    one_gives_both (framed_number bad (ltb (length marks) 25 || ltb (length points) 36) r) 25 (marks_of r.values) marks 36 (vectors_of r.values) points
