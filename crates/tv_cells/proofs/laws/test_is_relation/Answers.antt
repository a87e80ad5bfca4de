use Rattle.tv_cells.proofs.Downward.{test_is_relation}
use Rattle.tv_cells.proofs.laws.test_is_relation.Goals as goal

pub returns : goal.returns
returns c = test_is_relation
