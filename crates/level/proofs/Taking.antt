-- Which levels are taken: what the tests leave known, and that a raised level is a grid level. Assumes nothing.
use mathlib.Core.Path.{◌≡◌}
use mathlib.Core.Bool.{false}
use Prim.Native.Nat.{ℕ, ◌+◌, ◌%◌, ◌≤◌}
use native.Mathlib.Omega.{arith}
use lib.Dec.{ltb, eqb}
use borrow.Author.Tests.{ltb-false, le-ltb, ne_eqb}
use Rattle.reply.specs.Replies.{fine}
use Rattle.reply.proofs.Entries.{neither, passed}
use Rattle.reply.specs.declared.Refusal.TheVariants.{BadLevel}
use Rattle.level.specs.Levels.{bad_cell, bad_grid, grid_verdict, raised_of}

pub grid_low : (l : ℕ) → bad_grid l ≡ false → l ≤ 16
grid_low l e = ltb-false 16 l (neither (eqb (l % 2) 1) (ltb 16 l) e).1

pub grid_fine : (l : ℕ) → grid_verdict l ≡ fine → bad_grid l ≡ false
grid_fine l e = (passed _ BadLevel _ e).0

-- the raised level of a cell level that is taken is a grid level that is taken
pub raised_taken : (l : ℕ) → bad_cell l ≡ false → bad_grid (raised_of l) ≡ false
raised_taken l e =
    let h = ltb-false 15 l e in
    simp (ne_eqb ((l + l % 2) % 2) 1 (λ z. omega arith), le-ltb 16 (l + l % 2) (omega arith))
