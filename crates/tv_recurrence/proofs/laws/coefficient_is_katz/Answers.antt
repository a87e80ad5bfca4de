use Rattle.tv_recurrence.proofs.KatzTotals.{coefficient_is_katz}
use Rattle.tv_recurrence.proofs.laws.coefficient_is_katz.Goals as goal

pub returns : goal.returns
returns c = coefficient_is_katz
