use Rattle.tv_laws_counts.proofs.Configured.{configurations_once}
use Rattle.tv_laws_counts.proofs.laws.configurations_once.Goals as goal

pub returns : goal.returns
returns c = configurations_once
