use Rattle.tv_recurrence.specs.Rows.{IsQuotientRow}
use Rattle.tv_recurrence.proofs.row.coefficients.Given as goal

abbrev pub invariant-loop-weight : goal.invariant-loop-weight
invariant-loop-weight l = IsQuotientRow l.degree l.parts l.weight l.row.items
