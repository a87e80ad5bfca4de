use Rattle.tv_partition.proofs.shape.+falls_within.Given as goal

abbrev pub decreases-falls_within : goal.decreases-falls_within
decreases-falls_within l = l.left
