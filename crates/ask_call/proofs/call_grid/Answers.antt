-- `call_grid` meets its contract: what the C face gives for the question that is asked. Assumes nothing.
use mathlib.Core.Path.{◌≡◌, sym, subst}
use mathlib.Core.Bool.{true}
use mathlib.Core.List.{List, []}
use Prim.Native.Nat.{ℕ}
use Rattle.vec2d.specs.Points.{point_at}
use Rattle.vec2d.specs.Meeting.{line_at}
use Rattle.ask_read.specs.declared.Asked.{Asked}
use Rattle.ask_read.specs.declared.Question.{Question}
use Rattle.ask_read.specs.declared.Asked.TheVariants.{Round, Centre, Meet, Turn, Step, Cross, Direction, Same, First}
use Rattle.ask_call.specs.Replies.{number_at, flag_at, coord_at, place_at, reply_of, reply_to, on_grid, Holds}
use Rattle.ask_call.proofs.Calls.{round, centre, meet, turn, step, cross, direction, same, first_of_lem}
use Rattle.ask_call.proofs.Grids.{not_grid}
use borrow.Enum.Refused.{opened}
use Rattle.ask_call.proofs.call_grid.Goals as goal

-- the question that was found
on : (q : Question) (a : Asked) {k : ℕ} {ns ds : List ℕ} → q.asked ≡ a → Holds a (reply_of a [] q.numbers q.doubles) k ns ds
    → on_grid q.asked ≡ true → Holds q.asked (reply_to [] q) k ns ds
on q a {k = k} {ns = ns} {ds = ds} e h grid = subst (λ (x : Asked). Holds x (reply_of x [] q.numbers q.doubles) k ns ds) (sym e) h

pub returns-in-Round : goal.returns-in-Round
unfolding reply_of
returns-in-Round c =
    let ds = c.args.q.doubles in
    on c.args.q Round c.in-Round.is (round c.requires.0 c.requires.1 (point_at ds 0) c.round.ensures)

pub returns-in-Centre : goal.returns-in-Centre
unfolding reply_of
returns-in-Centre c =
    let ns = c.args.q.numbers in
    on c.args.q Centre c.in-Centre.is (centre c.requires.0 c.requires.1 (coord_at ns 0) c.centre.ensures)

pub returns-in-Meet : goal.returns-in-Meet
unfolding reply_of
returns-in-Meet c =
    let ds = c.args.q.doubles in
    on c.args.q Meet c.in-Meet.is (meet c.requires.0 c.requires.1 (line_at ds 0) (line_at ds 4) c.call_meet.ensures)

pub returns-in-Turn : goal.returns-in-Turn
unfolding reply_of
returns-in-Turn c =
    let ns = c.args.q.numbers in
    on c.args.q Turn c.in-Turn.is (turn c.requires.0 c.requires.1 (place_at ns 0 1) (flag_at ns 4) c.turn.ensures)

pub returns-in-Step : goal.returns-in-Step
unfolding reply_of
returns-in-Step c =
    let ns = c.args.q.numbers in
    on c.args.q Step c.in-Step.is (step c.requires.0 c.requires.1 (place_at ns 0 3) (number_at ns 1) (flag_at ns 2) (number_at ns 6) c.step.ensures)

pub returns-in-Cross : goal.returns-in-Cross
unfolding reply_of
returns-in-Cross c =
    let ns = c.args.q.numbers in
    on c.args.q Cross c.in-Cross.is (cross c.requires.0 c.requires.1 (place_at ns 0 3) (number_at ns 1) (flag_at ns 2) (flag_at ns 6) c.cross.ensures)

pub returns-in-Direction : goal.returns-in-Direction
unfolding reply_of
returns-in-Direction c =
    let ns = c.args.q.numbers in
    on c.args.q Direction c.in-Direction.is (direction c.requires.0 c.requires.1 (number_at ns 0) (number_at ns 1) c.direction.ensures)

pub returns-in-Same : goal.returns-in-Same
unfolding reply_of
returns-in-Same c =
    let ns = c.args.q.numbers in
    on c.args.q Same c.in-Same.is (same c.requires.0 c.requires.1 (place_at ns 1 2) (place_at ns 5 6) (number_at ns 0) c.same_corner.ensures)

pub returns-in-First : goal.returns-in-First
unfolding reply_of
returns-in-First c =
    let ns = c.args.q.numbers in
    on c.args.q First c.in-First.is (first_of_lem c.requires.0 c.requires.1 (place_at ns 0 2) (number_at ns 1) c.first_name.ensures)

pub returns-in_default : goal.returns-in_default
returns-in_default c grid = absurd (not_grid c.args.q.asked (opened c.in_default.in_default-own.keys10) grid)
