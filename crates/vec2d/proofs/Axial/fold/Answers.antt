-- `Axial::fold` meets its contract: what the folds come to. Assumes nothing.
use mathlib.Core.Path.{◌≡◌, refl}
use mathlib.Core.Bool.{Bool, true, false}
use Prim.Native.Nat.{ℕ}
use Rattle.std.specs.Bool.{if◌then◌else◌}
use Rattle.reply.specs.Choice.{pick}
use Rattle.vec2d.proofs.Folding.{lifted, flattened}
use Rattle.vec2d.proofs.Axial.fold.Goals as goal

-- the library's choice is the paper's
picked : (t : Bool) (a b : ℕ) → (if t then a else b) ≡ pick t a b
picked true a b = refl
picked false a b = refl

pub returns : goal.returns
returns c =
    let a = c.args in
    rw (c.new.ensures, c.select_unpredictable-2.ensures, c.select_unpredictable.ensures, c.select_unpredictable-third.ensures, c.select_unpredictable-second.ensures, c.select_unpredictable-first.ensures, c.max-most.ensures, picked, lifted)
    (flattened a.left a.down a.self.i a.self.j)
