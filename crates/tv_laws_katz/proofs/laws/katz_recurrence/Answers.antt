use Rattle.tv_laws_katz.proofs.ClassRecurrence.{katz_recurrence}
use Rattle.tv_laws_katz.proofs.laws.katz_recurrence.Goals as goal

pub returns : goal.returns
returns c = katz_recurrence
