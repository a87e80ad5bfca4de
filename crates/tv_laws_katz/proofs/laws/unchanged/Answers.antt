use Rattle.tv_laws_katz.proofs.FurtherInteger.{unchanged}
use Rattle.tv_laws_katz.proofs.laws.unchanged.Goals as goal

pub returns : goal.returns
returns c = unchanged
