-- `SpherePoint::over` meets its contract: three divisions. Assumes nothing.
use mathlib.Core.Path.{refl}
use Rattle.globe.specs.Points.{divided_by}
use Rattle.globe.proofs.SpherePoint.over.Goals as goal

pub returns : goal.returns
unfolding divided_by
returns c = refl
