-- `find` meets its contract: the place in the part, or the part's end. Assumes nothing.
use Rattle.std.proofs.Common.{arith, ◌-◌, ◌≡◌, ◌∙◌, sym, ap, Some, None, take, drop, length-take, length-drop}
use Rattle.ask_read.specs.Scan.{slice, place}
use Rattle.ask_read.proofs.Scanning.{placed, unplaced, part}
use Rattle.ask_read.proofs.find.Goals as goal

pub returns-in-Some : goal.returns-in-Some
returns-in-Some c =
    let a = c.args in
    let e : Some c.in-Some.i ≡ place a.b (take (a.end - a.from) (drop a.from a.s.now)) = sym c.in-Some.is ∙ c.place_of.ensures in
    let p = placed a.b (slice a.from a.end a.s.now) c.in-Some.i (e ∙ ap (place a.b) (part a.s.now a.from a.end c.requires.0)) in
    (omega (arith, p.0), omega (arith, p.1, length-drop a.from (take a.end a.s.now), length-take a.end a.s.now))

pub returns-in-None : goal.returns-in-None
returns-in-None c =
    let a = c.args in
    let e : None ≡ place a.b (take (a.end - a.from) (drop a.from a.s.now)) = sym c.in-None.is ∙ c.place_of.ensures in
    let p = unplaced a.b (slice a.from a.end a.s.now) (e ∙ ap (place a.b) (part a.s.now a.from a.end c.requires.0)) in
    (omega (arith, p, length-drop a.from (take a.end a.s.now), length-take a.end a.s.now, c.requires.0, c.requires.1), omega arith)

pub overflow_add-result : goal.overflow_add-result
overflow_add-result c =
    let a = c.args in
    let e : Some c.in-Some.i ≡ place a.b (take (a.end - a.from) (drop a.from a.s.now)) = sym c.in-Some.is ∙ c.place_of.ensures in
    let p = placed a.b (slice a.from a.end a.s.now) c.in-Some.i (e ∙ ap (place a.b) (part a.s.now a.from a.end c.requires.0)) in
    record { fits = omega (arith, p.1, length-drop a.from (take a.end a.s.now), length-take a.end a.s.now, c.ranges.end.fits, c.requires.0) }
