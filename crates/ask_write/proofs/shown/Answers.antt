-- `shown` meets its contract: all values, or as many as the count says. Assumes nothing.
use Prim.Native.Nat.{◌-◌, ◌*◌, ◌/◌, ◌≤◌}
use native.Mathlib.Omega.{arith}
use Rattle.ask_write.proofs.Lengths.{all_few, as_counted, all_shown, past_all, few_values}
use Rattle.ask_write.proofs.shown.Goals as goal

pub returns-then-len-lt49 : goal.returns-then-len-lt49
returns-then-len-lt49 c = (all_few _ _ c.if-len-lt49.true, omega arith)

pub returns-then-len-count : goal.returns-then-len-count
returns-then-len-count c =
    let a = c.args in
    let border = c.if-len-lt49.false in
    (all_shown a.len a.count border (past_all a.len a.count border c.if-len-count.true), omega arith)

pub overflow_mul-some : goal.overflow_mul-some
overflow_mul-some c =
    let few : (c.args.len - 1) / 12 * c.args.count ≤ 5 * 60 = let a = c.args in
    omega (arith, few_values a.len a.count c.if-len-lt49.false c.requires, c.if-len-count.false, c.requires) in
    omega (arith, few)

pub overflow_add-some : goal.overflow_add-some
overflow_add-some c =
    let few : (c.args.len - 1) / 12 * c.args.count ≤ 5 * 60 = let a = c.args in
    omega (arith, few_values a.len a.count c.if-len-lt49.false c.requires, c.if-len-count.false, c.requires) in
    omega (arith, few)

pub returns : goal.returns
returns c =
    let a = c.args in
    let border = c.if-len-lt49.false in
    (as_counted a.len a.count border c.min.result c.min.ensures, omega (arith, c.min.ensures))
