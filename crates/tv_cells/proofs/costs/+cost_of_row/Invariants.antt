use Rattle.tv_cells.proofs.costs.+cost_of_row.Given as goal

abbrev pub decreases-cost_of_row : goal.decreases-cost_of_row
decreases-cost_of_row l = l.n
