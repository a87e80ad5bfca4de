use Rattle.tv_recurrence.proofs.KatzTotals.{sizes_of_katz_parts}
use Rattle.tv_recurrence.proofs.laws.sizes_of_katz_parts.Goals as goal

pub returns : goal.returns
returns c = sizes_of_katz_parts
