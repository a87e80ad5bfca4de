use Rattle.std.proofs.Common.{◌≡◌, ◌-◌, ◌++◌}
use Rattle.tv_partition.specs.Rows.{columns}
use Rattle.tv_partition.proofs.shape.flipped.Given as goal

abbrev pub invariant-loop-j : goal.invariant-loop-j
invariant-loop-j l = l.columns.items ++ columns l.rows l.j (l.j-end - l.j) ≡ columns l.rows 0 l.j-end
