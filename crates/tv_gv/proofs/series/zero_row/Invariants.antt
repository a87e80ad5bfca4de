use Rattle.std.proofs.Common.{pos}
use Rattle.tv_class_integers.specs.Rows.{IsRow}
use Rattle.tv_gv.proofs.series.zero_row.Given as goal

abbrev pub invariant-loop : goal.invariant-loop
invariant-loop l = IsRow l.counter (λ t. pos 0) l.row.items
