-- Steps over edges, with no bound on their number: how repeated crossing leads from a place to one within the limit.
use Rattle.std.specs.Prelude.{ℕ, suc, ◌≤◌, ◌<◌, false}
use Rattle.level.specs.declared.Grid.{Grid}
use Rattle.faceijk.specs.declared.Place.{Place}
use Rattle.faceijk.specs.Places.{sum_at}
use Rattle.faceijk.specs.Crossing.{step_out}

-- n steps, each made because s exceeds m, lead from p to q, which has s at most m
pub data Walk (g : Grid) : Place → ℕ → Place → Type 0 where
  rest : {p : Place} → sum_at p ≤ g.limit → Walk g p 0 p
  over : {p q : Place} {n : ℕ} → g.limit < sum_at p → Walk g (step_out false g p) n q → Walk g p (suc n) q
