use Rattle.std.proofs.Common.{◌≡◌, ◌++◌}
use Rattle.tv_lemmas.specs.Sums.{plus}
use Rattle.tv_lattice.proofs.Sums.{sums_from}
use Rattle.tv_lattice.proofs.class.sums_of.Given as goal

abbrev pub invariant-loop-k : goal.invariant-loop-k
invariant-loop-k l = l.sums.items ++ sums_from l.first l.second l.k ≡ plus l.first l.second
