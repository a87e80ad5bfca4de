use Rattle.tv_laws_counts.proofs.Fillings.{fillings_counted}
use Rattle.tv_laws_counts.proofs.laws.fillings_are_counted.Goals as goal

pub returns : goal.returns
returns c = fillings_counted
