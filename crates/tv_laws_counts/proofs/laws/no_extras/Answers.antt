use Rattle.tv_laws_counts.proofs.Larger.{no_extras}
use Rattle.tv_laws_counts.proofs.laws.no_extras.Goals as goal

pub returns : goal.returns
returns c = no_extras
