use Rattle.tv_laws_signs.proofs.Whole.{whole_is_partial}
use Rattle.tv_laws_signs.proofs.laws.whole_count_is_partial.Goals as goal

pub returns : goal.returns
returns c = whole_is_partial
