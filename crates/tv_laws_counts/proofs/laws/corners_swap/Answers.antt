use Rattle.tv_laws_counts.proofs.Convolutions.{ways_swap}
use Rattle.tv_laws_counts.proofs.laws.corners_swap.Goals as goal

pub returns : goal.returns
returns c = ways_swap
