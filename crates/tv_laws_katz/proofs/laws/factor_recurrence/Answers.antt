use Rattle.tv_laws_katz.proofs.ProductRecurrence.{factor_recurrence}
use Rattle.tv_laws_katz.proofs.laws.factor_recurrence.Goals as goal

pub returns : goal.returns
returns c = factor_recurrence
