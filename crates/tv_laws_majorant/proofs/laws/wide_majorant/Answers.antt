use Rattle.tv_laws_majorant.proofs.Wide.{wide_majorant}
use Rattle.tv_laws_majorant.proofs.laws.wide_majorant.Goals as goal

pub returns : goal.returns
returns c = wide_majorant
