use Rattle.tv_laws_majorant.proofs.Wide.{steep_is_wide}
use Rattle.tv_laws_majorant.proofs.laws.steep_is_wide.Goals as goal

pub returns : goal.returns
returns c = steep_is_wide
