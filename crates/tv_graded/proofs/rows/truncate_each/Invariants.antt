use Rattle.std.proofs.Common.{◌≡◌, ◌++◌, map, take, drop}
use Rattle.tv_spec_series.specs.Families.{cut_row}
use Rattle.tv_graded.proofs.rows.truncate_each.Given as goal

abbrev pub invariant-loop-row : goal.invariant-loop-row
invariant-loop-row g l = l.rows ≡ map (cut_row l.upto) (take l.row-index l.fn.rows) ++ drop l.row-index l.fn.rows
