use Rattle.std.proofs.Common.{length}
use Rattle.tv_cells.proofs.costs.+cost_of_rows.Given as goal

abbrev pub decreases-cost_of_rows : goal.decreases-cost_of_rows
decreases-cost_of_rows l = length l.rows.now
