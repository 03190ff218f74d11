-- `call` meets its contract: what the C face gives for the question that is asked. Assumes nothing.
use mathlib.Core.Path.{◌≡◌, refl, sym, subst}
use mathlib.Core.List.{List}
use Prim.Native.Nat.{ℕ}
use lib.Dec.{lit≤}
use lib.Ieee.{Float, nan}
use lib.ListN.{get_or}
use Rattle.reply.specs.declared.Refusal.TheVariants.{BadLine}
use Rattle.vec2d.specs.Points.{point_at}
use Rattle.vec3d.specs.Frame.{vec_at}
use Rattle.ask_read.specs.declared.Asked.{Asked}
use Rattle.ask_read.specs.declared.Question.{Question}
use Rattle.ask_read.specs.declared.Asked.TheVariants.{Settle, Nearest, Place, Corners, Hexagon, Pentagon, Root, Sphere, Globe6, Globe5, Help, Unreadable}
use Rattle.ask_call.specs.Replies.{number_at, place_at, reply_of, reply_to, values_in, numbers_in, doubles_in, Holds}
use Rattle.ask_call.proofs.Holding.{refused}
use Rattle.ask_call.proofs.Calls.{nearest, place_of, corners, border_of, root, sphere_of_lem, globe_of}
use Rattle.ask_call.proofs.Grids.{is_grid, on_any_frame}
use Rattle.ask_call.proofs.call.Goals as goal

-- the question that was found
on : (f : List Float) (q : Question) (a : Asked) {k : ℕ} {ns ds : List ℕ} → q.asked ≡ a → Holds a (reply_of a f q.numbers q.doubles) k ns ds
    → (q.asked ≡ Settle → ⊥) → Holds q.asked (reply_to f q) k ns ds
on f q a {k = k} {ns = ns} {ds = ds} e h settling = subst (λ (x : Asked). Holds x (reply_of x f q.numbers q.doubles) k ns ds) (sym e) h

pub returns-in-Settle : goal.returns-in-Settle
returns-in-Settle c settling = absurd (settling c.in-Settle.is)

pub returns-in-Nearest : goal.returns-in-Nearest
unfolding reply_of vec_at
returns-in-Nearest c =
    let ds = c.args.q.doubles in
    on c.args.frame.now c.args.q Nearest c.in-Nearest.is (nearest c.requires.0 c.requires.1 c.args.frame.now (vec_at ds 0) c.nearest.ensures)

pub returns-in-Place : goal.returns-in-Place
unfolding reply_of vec_at
returns-in-Place c =
    let ns = c.args.q.numbers in
    let ds = c.args.q.doubles in
    on c.args.frame.now c.args.q Place c.in-Place.is (place_of c.requires.0 c.requires.1 c.args.frame.now (number_at ns 0) (vec_at ds 1) c.place.ensures)

pub returns-in-Corners : goal.returns-in-Corners
unfolding reply_of
returns-in-Corners c =
    let ns = c.args.q.numbers in
    on c.args.frame.now c.args.q Corners c.in-Corners.is (corners c.requires.0 c.requires.1 (place_at ns 0 2) (number_at ns 1) c.corners.ensures)

pub returns-in-Hexagon : goal.returns-in-Hexagon
unfolding reply_of
returns-in-Hexagon c =
    let ns = c.args.q.numbers in
    on c.args.frame.now c.args.q Hexagon c.in-Hexagon.is (border_of c.requires.0 c.requires.1 Hexagon 6 (place_at ns 0 2) (number_at ns 1) (number_at ns 5) (number_at ns 6) refl (lit≤ tt) c.hexagon.ensures)

pub returns-in-Pentagon : goal.returns-in-Pentagon
unfolding reply_of
returns-in-Pentagon c =
    let ns = c.args.q.numbers in
    on c.args.frame.now c.args.q Pentagon c.in-Pentagon.is (border_of c.requires.0 c.requires.1 Pentagon 5 (place_at ns 0 2) (number_at ns 1) (number_at ns 5) (number_at ns 6) refl (lit≤ tt) c.pentagon.ensures)

pub returns-in-Root : goal.returns-in-Root
unfolding reply_of
returns-in-Root c =
    let ds = c.args.q.doubles in
    on c.args.frame.now c.args.q Root c.in-Root.is (root c.requires.0 c.requires.1 (get_or ds 0 nan) c.root.ensures)

pub returns-in-Sphere : goal.returns-in-Sphere
unfolding reply_of
returns-in-Sphere c =
    let ns = c.args.q.numbers in
    let ds = c.args.q.doubles in
    on c.args.frame.now c.args.q Sphere c.in-Sphere.is (sphere_of_lem c.requires.0 c.requires.1 c.args.frame.now (number_at ns 0) (number_at ns 1) (point_at ds 2) c.sphere.ensures)

pub returns-in-Globe6 : goal.returns-in-Globe6
unfolding reply_of
returns-in-Globe6 c =
    let ns = c.args.q.numbers in
    on c.args.frame.now c.args.q Globe6 c.in-Globe6.is (globe_of c.requires.0 c.requires.1 Globe6 6 c.args.frame.now (place_at ns 0 2) (number_at ns 1) (number_at ns 5) (number_at ns 6) refl (lit≤ tt) c.call_globe.ensures)

pub returns-in-Globe5 : goal.returns-in-Globe5
unfolding reply_of
returns-in-Globe5 c =
    let ns = c.args.q.numbers in
    on c.args.frame.now c.args.q Globe5 c.in-Globe5.is (globe_of c.requires.0 c.requires.1 Globe5 5 c.args.frame.now (place_at ns 0 2) (number_at ns 1) (number_at ns 5) (number_at ns 6) refl (lit≤ tt) c.call_globe-in-Globe5.ensures)

pub returns-in-Help : goal.returns-in-Help
unfolding reply_of values_in numbers_in doubles_in
returns-in-Help c =
    on c.args.frame.now c.args.q Help c.in-Help.is (record { number = refl; values = refl; other_numbers = c.requires.0; other_doubles = c.requires.1 })

pub returns-in-Unreadable : goal.returns-in-Unreadable
unfolding reply_of
returns-in-Unreadable c =
    on c.args.frame.now c.args.q Unreadable c.in-Unreadable.is (refused Unreadable 0 BadLine refl refl c.requires.0 c.requires.1)

pub returns-in_default : goal.returns-in_default
returns-in_default c settling =
    let grid = is_grid c.args.q.asked c.in_default.in_default-own.keys13 in
    on_any_frame c.args.q c.args.frame.now grid (c.call_grid.ensures grid)
