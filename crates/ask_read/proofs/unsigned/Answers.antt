-- `unsigned` meets its contract: the digits before the point and those after it. Assumes nothing.
use Rattle.std.proofs.Common.{rules, ◌≡◌, sym, ◌∙◌, ap, Some, None, true, false, List, ℕ, ◌+◌, ◌-◌, ◌≤◌, min, length, take, drop, arith}
use lib.Dec.{lit≤}
use Rattle.ask_read.specs.Scan.{slice, index_of}
use Rattle.ask_read.specs.Words.{spelt}
use Rattle.ask_read.proofs.Decimals.{Parts, found, part_length, test, short, unsigned_is, widen, two_parts, digits_small}
use Rattle.ask_read.proofs.unsigned.Goals as goal

parts : (w : List ℕ) (p f : ℕ) → (p ≡ 0 + index_of 46 (slice 0 (length w) w)) × (p ≤ length w) → f ≡ min (length w) (p + 1) → Parts w p f
parts w p f e h = record { point = found w p e.0; inside = e.1; next = λ l. omega arith; low = omega (arith, e.1); high = omega arith }

-- the digits behind the point
abbrev rest : List ℕ → ℕ → List ℕ
rest w f = take (length w - f) (drop f w)

pub returns-in_err-whole : goal.returns-in_err-whole
returns-in_err-whole c =
    let s = c.args.s.now in
    let p = c.find-point.result in
    let f = c.min-from.result in
    let k = parts s p f c.find-point.ensures c.min-from.ensures in
    let t : test s p f k ≡ true = rw c.is_plain-shaped.ensures at c.if-shaped-point.true in
    let e : spelt 10 0 (take p s) ≡ None = sym c.spell.ensures ∙ c.in_err-whole.was in
    rw (← (unsigned_is s p f k), t, e) (search rules)

pub spell-requires-then-shaped-point : goal.spell-requires-then-shaped-point
spell-requires-then-shaped-point c =
    let s = c.args.s.now in
    let p = c.find-point.result in
    let f = c.min-from.result in
    let k = parts s p f c.find-point.ensures c.min-from.ensures in
    let t : test s p f k ≡ true = rw c.is_plain-shaped.ensures at c.if-shaped-point.true in
    let e : spelt 10 0 (take p s) ≡ Some c.in_ok-whole.whole = sym c.spell.ensures ∙ c.in_ok-whole.was in
    (lit≤ tt, (widen (two_parts (take p s) (rest s f) c.in_ok-whole.whole e (short s p f k t)) (lit≤ tt)).fits)

pub returns-in_err-all : goal.returns-in_err-all
returns-in_err-all c =
    let s = c.args.s.now in
    let p = c.find-point.result in
    let f = c.min-from.result in
    let k = parts s p f c.find-point.ensures c.min-from.ensures in
    let t : test s p f k ≡ true = rw c.is_plain-shaped.ensures at c.if-shaped-point.true in
    let e : spelt 10 0 (take p s) ≡ Some c.in_ok-whole.whole = sym c.spell.ensures ∙ c.in_ok-whole.was in
    let g : spelt 10 c.in_ok-whole.whole (rest s f) ≡ None = sym c.spell-then-shaped-point.ensures ∙ c.in_err-all.was in
    rw (← (unsigned_is s p f k), t, e, g) (search rules)

pub decimal_from-x-requires : goal.decimal_from-x-requires
decimal_from-x-requires c =
    let s = c.args.s.now in
    let p = c.find-point.result in
    let f = c.min-from.result in
    let k = parts s p f c.find-point.ensures c.min-from.ensures in
    let t : test s p f k ≡ true = rw c.is_plain-shaped.ensures at c.if-shaped-point.true in
    let e : spelt 10 0 (take p s) ≡ Some c.in_ok-whole.whole = sym c.spell.ensures ∙ c.in_ok-whole.was in
    let g : spelt 10 c.in_ok-whole.whole (rest s f) ≡ Some c.in_ok-all.all = sym c.spell-then-shaped-point.ensures ∙ c.in_ok-all.was in
    let h : length (take p s) + length (rest s f) ≤ 15 = short s p f k t in
    let l = part_length s p f k in
    (digits_small (take p s) (rest s f) c.in_ok-whole.whole c.in_ok-all.all e g h, omega arith)

pub returns-then-shaped-point : goal.returns-then-shaped-point
returns-then-shaped-point c =
    let s = c.args.s.now in
    let p = c.find-point.result in
    let f = c.min-from.result in
    let k = parts s p f c.find-point.ensures c.min-from.ensures in
    let t : test s p f k ≡ true = rw c.is_plain-shaped.ensures at c.if-shaped-point.true in
    let e : spelt 10 0 (take p s) ≡ Some c.in_ok-whole.whole = sym c.spell.ensures ∙ c.in_ok-whole.was in
    let g : spelt 10 c.in_ok-whole.whole (rest s f) ≡ Some c.in_ok-all.all = sym c.spell-then-shaped-point.ensures ∙ c.in_ok-all.was in
    rw (← (unsigned_is s p f k), t, e, g) (ap Some c.decimal_from-x.ensures)

pub returns : goal.returns
returns c =
    let s = c.args.s.now in
    let p = c.find-point.result in
    let f = c.min-from.result in
    let k = parts s p f c.find-point.ensures c.min-from.ensures in
    let t : test s p f k ≡ false = rw c.is_plain-shaped.ensures at c.if-shaped-point.false in
    rw (← (unsigned_is s p f k), t)
