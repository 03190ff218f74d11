-- Levels of document 01: which are taken, the raise from cell level to grid level, unit scale and limit.
use Rattle.level.specs.declared.GridLevel.{GridLevel}
use Rattle.reply.specs.declared.Refusal.{Refusal}
use Rattle.std.specs.Prelude.{◌≡◌, Bool, ◌||◌, List, [], ◌∷◌, ℕ, ◌+◌, ◌*◌, ◌/◌, ◌%◌, ◌^◌, ◌<◌, ltb, eqb, Result}
use Rattle.reply.specs.Choice.{pick}
use Rattle.reply.specs.declared.Refusal.TheVariants.{BadLevel}
use Rattle.reply.specs.Replies.{Reply, when, first, reply, Verdict, said, bit}
use Rattle.level.specs.declared.Grid.{Grid}

-- BadLevel: cell level above 15; grid level odd or above 16
abbrev pub bad_cell : ℕ → Bool
bad_cell l = ltb 15 l

abbrev pub bad_grid : ℕ → Bool
bad_grid l = eqb (l % 2) 1 || ltb 16 l

abbrev pub cell_verdict : ℕ → Verdict
cell_verdict l = first (when (bad_cell l) BadLevel ∷ [])

abbrev pub grid_verdict : ℕ → Verdict
grid_verdict l = first (when (bad_grid l) BadLevel ∷ [])

-- an odd level is raised by one
abbrev pub raised_of : ℕ → ℕ
raised_of l = l + l % 2

abbrev pub on_kind : Bool → ℕ → ℕ
on_kind substrate n = pick substrate (3 * n) n

-- the unit scale is 7^(level/2), the limit m is 2·7^(level/2); times 3 on a substrate grid
unfoldable pub unit_of : ℕ → Bool → ℕ
unit_of l substrate = on_kind substrate (7 ^ (l / 2))

unfoldable pub limit_of : ℕ → Bool → ℕ
limit_of l substrate = on_kind substrate (2 * 7 ^ (l / 2))

abbrev pub grid_of : ℕ → Bool → Grid
grid_of l substrate = record { unit = unit_of l substrate; limit = limit_of l substrate; substrate = substrate }

-- what every grid of a level 0..16 has
pub record Sound (g : Grid) : Type 0 where
  pub twice : g.limit ≡ 2 * g.unit
  pub some : 0 < g.unit
  pub small : g.unit < 33554432

-- the entries, in the paper's numbers
abbrev pub said_raised : Result GridLevel Refusal → Reply
said_raised = said 1 (λ g. g.0 ∷ [])

abbrev pub raise_reply : ℕ → Reply
raise_reply l = reply 1 (cell_verdict l) (raised_of l ∷ [])

abbrev pub grid_values : Grid → List ℕ
grid_values g = g.unit ∷ g.limit ∷ bit g.substrate ∷ []

abbrev pub said_gridded : Result Grid Refusal → Reply
said_gridded = said 3 grid_values

abbrev pub grid_reply : ℕ → Bool → Reply
grid_reply l substrate = reply 3 (grid_verdict l) (grid_values (grid_of l substrate))
