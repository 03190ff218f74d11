-- `write_values` meets its contract: by the question. Assumes nothing.
use native.Mathlib.Omega.{arith}
use Rattle.text.proofs.Putting.{put_nothing}
use Rattle.ask_write.specs.Texts.{values_text}
use Rattle.ask_write.proofs.write_values.Goals as goal

pub returns-in-Round : goal.returns-in-Round
returns-in-Round c = rw c.in-Round.is c.write_line.ensures

pub returns-in-Centre : goal.returns-in-Centre
returns-in-Centre c = rw c.in-Centre.is c.write_line-in-Centre.ensures

pub returns-in-Meet : goal.returns-in-Meet
returns-in-Meet c = rw c.in-Meet.is c.write_line-in-Meet.ensures

pub returns-in-Turn : goal.returns-in-Turn
returns-in-Turn c = rw c.in-Turn.is c.write_line-in-Turn.ensures

pub returns-in-Step : goal.returns-in-Step
returns-in-Step c = rw c.in-Step.is c.write_line-in-Step.ensures

pub returns-in-Cross : goal.returns-in-Cross
returns-in-Cross c = rw c.in-Cross.is c.write_line-in-Cross.ensures

pub returns-in-Settle : goal.returns-in-Settle
returns-in-Settle c = rw c.in-Settle.is c.write_line-in-Settle.ensures

pub returns-in-Direction : goal.returns-in-Direction
returns-in-Direction c = rw c.in-Direction.is c.write_line-in-Direction.ensures

pub returns-in-Same : goal.returns-in-Same
returns-in-Same c = rw c.in-Same.is c.write_line-in-Same.ensures

pub returns-in-Nearest : goal.returns-in-Nearest
returns-in-Nearest c = rw c.in-Nearest.is c.write_line-in-Nearest.ensures

pub returns-in-Place : goal.returns-in-Place
returns-in-Place c = rw c.in-Place.is c.write_line-in-Place.ensures

pub returns-in-Corners : goal.returns-in-Corners
returns-in-Corners c = rw c.in-Corners.is c.write_line-in-Corners.ensures

pub returns-in-Hexagon : goal.returns-in-Hexagon
returns-in-Hexagon c = rw c.in-Hexagon.is c.write_border.ensures

pub returns-in-Pentagon : goal.returns-in-Pentagon
returns-in-Pentagon c = rw c.in-Pentagon.is c.write_border-in-Pentagon.ensures

pub returns-in-Root : goal.returns-in-Root
returns-in-Root c = rw c.in-Root.is c.write_line-in-Root.ensures

pub returns-in-Sphere : goal.returns-in-Sphere
returns-in-Sphere c = rw c.in-Sphere.is c.write_line-in-Sphere.ensures

pub returns-in-Globe6 : goal.returns-in-Globe6
returns-in-Globe6 c = rw c.in-Globe6.is c.write_globe.ensures

pub returns-in-Globe5 : goal.returns-in-Globe5
returns-in-Globe5 c = rw c.in-Globe5.is c.write_globe-in-Globe5.ensures

pub returns-in-First : goal.returns-in-First
returns-in-First c = rw c.in-First.is c.write_line-in-First.ensures

pub returns-in-Help : goal.returns-in-Help
unfolding values_text
returns-in-Help c = rw c.in-Help.is (put_nothing c.args.buf.now 0, omega arith)

pub returns-in-Unreadable : goal.returns-in-Unreadable
unfolding values_text
returns-in-Unreadable c = rw c.in-Unreadable.is (put_nothing c.args.buf.now 0, omega arith)
