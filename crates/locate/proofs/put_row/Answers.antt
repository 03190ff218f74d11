-- `put_row` meets its contract: the four numbers copied in are those that the paper sets. Assumes nothing.
use borrow.Author.Rules.{rules}
use mathlib.Core.Path.{◌≡◌, sym, ◌∙◌}
use Prim.Native.Nat.{◌+◌, ◌-◌}
use native.Mathlib.Omega.{arith}
use lib.IntN.{ℤ}
use mir.Syntax.{w32}
use mir.Val.{SFits, to_z, of_z}
use mir.ValLaws.{to_z-of_z}
use Rattle.std.proofs.lemmas.List.{append_assoc, drop-drop}
use Rattle.std.proofs.lemmas.List.Edits.{sets-eq}
use Rattle.locate.specs.Batch.{cells}
use Rattle.locate.proofs.put_row.Goals as goal

pub returns : goal.returns
returns c =
    let a = c.args in
    let r = a.row in
    let four : a.at + 4 - a.at ≡ 4 = omega arith in
    let read : (z : ℤ) → SFits w32 z → to_z w32 (of_z w32 z) ≡ z = to_z-of_z w32 in
    rw (four, c.copy_from_slice.ensures.after, read r.face (search rules), read r.i (search rules), read r.j (search rules), read r.k (search rules), drop-drop)
    (sym (sets-eq (cells r) a.out.now a.at c.requires ∙ append_assoc _ (cells r) _))
