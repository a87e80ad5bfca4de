use Rattle.std.proofs.Common.{◌≡◌, map, take}
use Rattle.tv_spec_series.specs.Families.{divided_row}
use Rattle.tv_graded.proofs.divided.divided_rows.Given as goal

abbrev pub invariant-loop-row : goal.invariant-loop-row
invariant-loop-row g l = l.divided.items ≡ map (divided_row g.C.Ring.ring l.zero) (take l.row-index l.rows)
