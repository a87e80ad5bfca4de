use Rattle.tv_laws_katz.proofs.ProductRecurrence.{factor_division}
use Rattle.tv_laws_katz.proofs.laws.factor_division.Goals as goal

pub returns : goal.returns
returns c = factor_division
