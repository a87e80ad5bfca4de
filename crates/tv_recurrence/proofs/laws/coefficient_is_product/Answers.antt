use Rattle.tv_recurrence.proofs.PartTotals.{coefficient_is_product}
use Rattle.tv_recurrence.proofs.laws.coefficient_is_product.Goals as goal

pub returns : goal.returns
returns c = coefficient_is_product
