use Rattle.std.proofs.Common.{pos, ◌-ℤ◌}
use Rattle.tv_ring.specs.Whole.{wholes}
use Rattle.tv_spec_series.specs.Families.{coefficient}
use Rattle.tv_class_integers.specs.Rows.{IsRow}
use Rattle.tv_gv.proofs.series.row_of.Given as goal

abbrev pub invariant-loop-weight : goal.invariant-loop-weight
invariant-loop-weight l = IsRow l.weight (λ t. coefficient wholes l.series (pos t -ℤ pos l.base)) l.row.items
