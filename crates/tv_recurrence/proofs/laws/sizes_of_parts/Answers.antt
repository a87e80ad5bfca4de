use Rattle.tv_recurrence.proofs.PartTotals.{sizes_of_parts}
use Rattle.tv_recurrence.proofs.laws.sizes_of_parts.Goals as goal

pub returns : goal.returns
returns c = sizes_of_parts
