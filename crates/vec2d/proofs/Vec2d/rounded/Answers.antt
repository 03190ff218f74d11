-- `Vec2d::rounded` meets its contract: the verdict decides, and a point that passes is near enough; what is found for it may be trusted. Assumes nothing.
use mathlib.Core.Path.{◌∙◌, sym, subst}
use Rattle.vec2d.specs.declared.Found.{Found}
use Rattle.vec2d.specs.Nearest.{Trusted}
use Rattle.vec2d.proofs.Accepted.{accepted}
use Rattle.vec2d.proofs.Trusting.{trusted}
use Rattle.vec2d.proofs.Vec2d.rounded.Goals as goal

pub nearest-requires : goal.nearest-requires
nearest-requires c = accepted _ (sym c.verdict.ensures ∙ c.in_ok-verdict.was)

pub returns-clause-shown : goal.returns-clause-shown
returns-clause-shown c =
    let p = c.new-at.result in
    let fine = sym c.verdict.ensures ∙ c.in_ok-verdict.was in
    rw c.new-at.ensures at (subst (λ (f : Found). Trusted p f) (sym c.nearest.ensures) (trusted p fine))
