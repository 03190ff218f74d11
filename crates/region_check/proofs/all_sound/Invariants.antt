-- `all_sound` meets its contract: the places so far stand in order. Assumes nothing.
use mathlib.Core.Path.{◌≡◌}
use mathlib.Core.Bool.{true}
use Prim.Native.Nat.{ℕ, ◌<◌}
use Rattle.faceijk.specs.declared.Place.{Place}
use Rattle.region_check.specs.Sound.{sound_to}
use Rattle.region_check.proofs.all_sound.Given as goal

abbrev pub invariant-loop-n : goal.invariant-loop-n
invariant-loop-n g l =
    (at : ℕ → Place) → ((n : ℕ) (p : Place) → n < l.fn.count → goal.F-post g l.fn.place_at n p → p ≡ at n) → sound_to at l.n ≡ true
