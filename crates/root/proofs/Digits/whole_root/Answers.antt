-- `Digits::whole_root` meets its contract: every step is a word, and the comparison decides whether the division gave one too much. Assumes nothing.
use native.Mathlib.Omega.{arith}
use Rattle.root.proofs.Halving.{Words, words, halves_below}
use Rattle.root.proofs.Digits.whole_root.Goals as goal

pub overflow_mul-q-2 : goal.overflow_mul-q-2
overflow_mul-q-2 c =
    let w : Words c.args.self.m c.small_root-r.result c.args.self.least c.small_root-r.ensures = words _ _ c.args.self.least c.small_root-r.ensures (omega (arith, c.args.self.most)) in
    omega arith

pub returns-then-u-q : goal.returns-then-u-q
returns-then-u-q c = halves_below _ _ c.args.self.least c.small_root-r.ensures c.if-u-q.true
