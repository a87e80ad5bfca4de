use Rattle.std.proofs.Common.{length}
use Rattle.tv_partition.proofs.shape.+column.Given as goal

abbrev pub decreases-column : goal.decreases-column
decreases-column l = length l.rows.now
