use Rattle.tv_laws_counts.proofs.Configured.{configurations_are_all}
use Rattle.tv_laws_counts.proofs.laws.configurations_are_all.Goals as goal

pub returns : goal.returns
returns c = configurations_are_all
