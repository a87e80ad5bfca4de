use Rattle.tv_class_parts.proofs.Tables.{table_goes_on}
use Rattle.tv_class_parts.proofs.laws.table_goes_on.Goals as goal

pub returns : goal.returns
returns c = table_goes_on
