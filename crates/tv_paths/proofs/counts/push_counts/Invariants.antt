use Rattle.std.proofs.Common.{◌≡◌, ◌++◌}
use Rattle.tv_paths.specs.Counts.{row_counts}
use Rattle.tv_paths.proofs.counts.push_counts.Given as goal

abbrev pub invariant-loop-cost : goal.invariant-loop-cost
invariant-loop-cost g l = l.all.items ≡ l.initial.all.items ++ row_counts g.C.Ring.ring l.slice l.row l.cost
