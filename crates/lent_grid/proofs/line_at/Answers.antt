-- `line_at` meets its contract: two points are a line. Assumes nothing.
use mathlib.Core.Path.{◌≡◌}
use Rattle.vec2d.specs.declared.Vec2d.{Vec2d}
use Rattle.vec2d.specs.declared.Line.{Line}
use Rattle.lent_grid.proofs.line_at.Goals as goal

line : {a b c d : Vec2d} → a ≡ b → c ≡ d → ◌≡◌ {A = Line} (record { from = a; to = c }) (record { from = b; to = d })
line e f = λ n. record { from = e n; to = f n }

pub returns : goal.returns
returns c = line c.point_at.ensures c.point_at-2.ensures
