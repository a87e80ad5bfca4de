use Rattle.tv_laws_counts.proofs.Convolutions.{ways_last}
use Rattle.tv_laws_counts.proofs.laws.last_corner_is_convolution.Goals as goal

pub returns : goal.returns
returns c = ways_last
