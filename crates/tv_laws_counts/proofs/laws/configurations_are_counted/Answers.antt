use Rattle.tv_laws_counts.proofs.Fillings.{configurations_counted}
use Rattle.tv_laws_counts.proofs.laws.configurations_are_counted.Goals as goal

pub returns : goal.returns
returns c = configurations_counted
