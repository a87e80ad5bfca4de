use Rattle.std.proofs.Common.{◌≡◌, suc}
use Rattle.tv_spec_reports.specs.Grids.{grid_height}
use Rattle.tv_grids.proofs.Rows.{before}
use Rattle.tv_grids.proofs.grid.heights.Given as goal

abbrev pub invariant-loop-y : goal.invariant-loop-y
invariant-loop-y l = l.heights.items ≡ before (suc l.k) grid_height 0 l.y

abbrev pub invariant-loop-x : goal.invariant-loop-x
invariant-loop-x l = l.heights.items ≡ before (suc l.k) grid_height l.x l.y
