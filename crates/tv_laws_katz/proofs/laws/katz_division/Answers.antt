use Rattle.tv_laws_katz.proofs.ClassRecurrence.{katz_division}
use Rattle.tv_laws_katz.proofs.laws.katz_division.Goals as goal

pub returns : goal.returns
returns c = katz_division
