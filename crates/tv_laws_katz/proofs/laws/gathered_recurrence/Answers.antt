use Rattle.tv_laws_katz.proofs.GatheredFactors.{gathered_recurrence}
use Rattle.tv_laws_katz.proofs.laws.gathered_recurrence.Goals as goal

pub returns : goal.returns
returns c = gathered_recurrence
