use Rattle.std.proofs.Common.{length}
use Rattle.tv_partition.proofs.shape.+size.Given as goal

abbrev pub decreases-size : goal.decreases-size
decreases-size l = length l.rows.now
