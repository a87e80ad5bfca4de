use Rattle.tv_recurrence.proofs.PartTotals.{parts_are_exact}
use Rattle.tv_recurrence.proofs.laws.parts_are_exact.Goals as goal

pub returns : goal.returns
returns c = parts_are_exact
