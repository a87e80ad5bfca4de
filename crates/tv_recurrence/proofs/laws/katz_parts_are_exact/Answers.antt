use Rattle.tv_recurrence.proofs.KatzTotals.{katz_parts_are_exact}
use Rattle.tv_recurrence.proofs.laws.katz_parts_are_exact.Goals as goal

pub returns : goal.returns
returns c = katz_parts_are_exact
