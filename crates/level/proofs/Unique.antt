-- Two outcomes of a level's entry that meet one promise coincide, and what a caller learns of them. Assumes nothing.
use mathlib.Core.Path.{◌≡◌}
use mathlib.Core.Bool.{Bool, true, false}
use mathlib.Core.List.{[], ◌∷◌}
use Prim.Native.Nat.{ℕ}
use Rattle.level.specs.declared.GridLevel.{GridLevel}
use Rattle.std.specs.Prelude.{Ok, Err, Result}
use Rattle.reply.specs.declared.Refusal.{Refusal}
use Rattle.reply.specs.declared.Refusal.TheVariants.{BadLevel}
use Rattle.reply.proofs.Entries.{one_bit, one_said, told, told_refusal, found}
use Rattle.level.specs.declared.Grid.{Grid}
use Rattle.level.specs.Levels.{bad_grid, grid_verdict, grid_of, grid_values, grid_reply, said_raised, said_gridded}
use Rattle.level.proofs.Taking.{grid_fine}

same_level : (g h : GridLevel) → g.0 ∷ [] ≡ h.0 ∷ [] → g ≡ h
same_level g h v = let l : g.0 ≡ h.0 = cc in λ n. record { 0 = l n }

pub one_raised : (a b : Result GridLevel Refusal) → said_raised a ≡ said_raised b → a ≡ b
one_raised = one_said 1 _ same_level

same_grid : (g h : Grid) → grid_values g ≡ grid_values h → g ≡ h
same_grid g h v =
    let u : g.unit ≡ h.unit = cc in
    let l : g.limit ≡ h.limit = cc in
    let s = one_bit g.substrate h.substrate (cc) in
    λ n. record { unit = u n; limit = l n; substrate = s n }

pub one_gridded : (a b : Result Grid Refusal) → said_gridded a ≡ said_gridded b → a ≡ b
one_gridded = one_said 3 grid_values same_grid

-- what a caller learns of a grid that is given: the level is taken and the grid is its own; and of one that is refused
pub grid_told : (l : ℕ) (s : Bool) {x : Result Grid Refusal} {g : Grid} → x ≡ Ok g → said_gridded x ≡ grid_reply l s → (bad_grid l ≡ false) × (g ≡ grid_of l s)
grid_told l s {x} {g} is e = let t = told 3 grid_values (grid_verdict l) _ is e in (grid_fine l t.0, same_grid g (grid_of l s) t.1)

pub grid_refused : (l : ℕ) (s : Bool) {x : Result Grid Refusal} {r : Refusal} → x ≡ Err r → said_gridded x ≡ grid_reply l s → (bad_grid l ≡ true) × (BadLevel ≡ r)
grid_refused l s {x} {r} is e = found (bad_grid l) BadLevel r (told_refusal 3 grid_values (grid_verdict l) _ is e)
