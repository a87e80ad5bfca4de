use Rattle.std.proofs.Common.{◌≡◌, ◌++◌, drop}
use Rattle.tv_candidates.specs.Sums.{pair_sums}
use Rattle.tv_candidates.proofs.sums.sums_of.Given as goal

abbrev pub invariant-loop-first : goal.invariant-loop-first
invariant-loop-first l = l.sums.items ++ pair_sums (drop l.first-index l.firsts) l.seconds ≡ pair_sums l.firsts l.seconds
