use Rattle.tv_laws_counts.proofs.Larger.{larger_count}
use Rattle.tv_laws_counts.proofs.laws.larger_count.Goals as goal

pub returns : goal.returns
returns c = larger_count
