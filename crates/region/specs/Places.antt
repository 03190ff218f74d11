-- The order of a list's places. Request 4: "sorted by face, then i, j, k"; and tests of every number below another.
use Rattle.std.specs.Prelude.{Bool, true, false, ◌&&◌, ◌||◌, ℕ, zero, suc, ltb, eqb}
use Rattle.reply.specs.Choice.{pick}
use Rattle.faceijk.specs.declared.Place.{Place}

-- a lies below b; where they are equal, what follows decides
abbrev pub below_or : ℕ → ℕ → Bool → Bool
below_or a b rest = pick (eqb a b) rest (ltb a b)

unfoldable pub before : Place → Place → Bool
before p q = below_or p.face q.face (below_or p.i q.i (below_or p.j q.j (ltb p.k q.k)))

-- the test holds at every number below n; at some number below n
unfoldable pub all_to : (ℕ → Bool) → ℕ → Bool
all_to test zero = true
all_to test (suc n) = all_to test n && test n

unfoldable pub any_to : (ℕ → Bool) → ℕ → Bool
any_to test zero = false
any_to test (suc n) = any_to test n || test n
