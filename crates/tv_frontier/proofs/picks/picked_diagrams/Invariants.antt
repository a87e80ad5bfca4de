use Rattle.std.proofs.Common.{◌≡◌, ◌++◌, drop}
use Rattle.tv_frontier.specs.Picks.{picks}
use Rattle.tv_frontier.proofs.picks.picked_diagrams.Given as goal

abbrev pub invariant-loop-k : goal.invariant-loop-k
invariant-loop-k l = l.picked.items ++ picks (drop l.k l.flags) (drop l.k l.diagrams) ≡ picks l.flags l.diagrams
