use Rattle.std.proofs.Common.{◌≡◌, suc}
use Rattle.tv_spec_reports.specs.Grids.{grid_point}
use Rattle.tv_grids.proofs.Rows.{before}
use Rattle.tv_grids.proofs.grid.points.Given as goal

abbrev pub invariant-loop-y : goal.invariant-loop-y
invariant-loop-y l = l.points.items ≡ before (suc l.k) grid_point 0 l.y

abbrev pub invariant-loop-x : goal.invariant-loop-x
invariant-loop-x l = l.points.items ≡ before (suc l.k) grid_point l.x l.y
