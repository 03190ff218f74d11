-- `lower_of` meets its contract: of two names the one with the least face, the first where both have it. Assumes nothing.
use borrow.Author.Rules.{rules}
use mathlib.Core.Path.{◌≡◌, ◌∙◌}
use Rattle.std.specs.Ordering.{nat_cmp, on, ord_min}
use Rattle.std.proofs.lemmas.Fn.{always_returns_same}
use Rattle.reply.proofs.Tests.{tests}
use Rattle.faceijk.specs.declared.Place.{Place}
use Rattle.names.specs.Row.{lower}
use Rattle.names.proofs.lower_of.Goals as goal

same : (a b : Place) → ord_min (on (λ (p : Place). p.face) nat_cmp) a b ≡ lower a b
unfolding lower
same a b = search (rules, tests)

pub returns : goal.returns
returns c = c.min_by_key.ensures (λ (p : Place). p.face) (always_returns_same _ _ _ (λ a r f called. search rules)) ∙ same c.args.a c.args.b
