-- Two outcomes of the full check that meet one promise coincide. Assumes nothing.
use mathlib.Core.Path.{◌≡◌}
use mathlib.Core.List.{[], ◌∷◌}
use Rattle.region_check.specs.declared.Facts.{Facts}
use Rattle.reply.specs.declared.Refusal.{Refusal}
use Rattle.std.specs.Prelude.{Result}
use Rattle.reply.proofs.Entries.{one_said}
use Rattle.region_check.specs.Checks.{said_checked}

same_facts : (f g : Facts) → f.level ∷ f.count ∷ [] ≡ g.level ∷ g.count ∷ [] → f ≡ g
same_facts f g v =
    let l : f.level ≡ g.level = cc in
    let c : f.count ≡ g.count = cc in
    λ t. record { level = l t; count = c t }

pub one_checked : (a b : Result Facts Refusal) → said_checked a ≡ said_checked b → a ≡ b
one_checked = one_said 2 _ same_facts
