use Rattle.tv_laws_majorant.proofs.Wide.{wide_powers}
use Rattle.tv_laws_majorant.proofs.laws.wide_powers.Goals as goal

pub returns : goal.returns
returns c = wide_powers
