use Rattle.tv_laws_majorant.proofs.Wide.{genus_is_wide}
use Rattle.tv_laws_majorant.proofs.laws.genus_is_wide.Goals as goal

pub returns : goal.returns
returns c = genus_is_wide
