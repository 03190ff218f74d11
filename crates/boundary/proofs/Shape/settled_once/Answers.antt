-- `Shape::settled_once` meets its contract: at the turn past all corners the first one is handed back. Assumes nothing.
use mathlib.Core.Path.{◌≡◌, sym, ap, ◌∙◌}
use native.Mathlib.Omega.{arith}
use Rattle.boundary.specs.Landing.{land_at}
use Rattle.boundary.proofs.Landing.{first_again}
use Rattle.boundary.proofs.Shape.settled_once.Goals as goal

pub returns-else-k-lt5 : goal.returns-else-k-lt5
returns-else-k-lt5 c =
    let s = c.args.self in
    let past : 5 ≡ c.args.k = omega (arith, c.requires.1, c.requires.2, c.if-k-lt5.false) in
    c.requires.3 (omega arith) ∙ sym (first_again s c.requires.2) ∙ ap (land_at s) past
