use Rattle.std.proofs.Common.{◌≡◌}
use Rattle.tv_laws_series.specs.Terms.{listed}
use Rattle.tv_frontier.specs.Joining.{moved_at}
use Rattle.tv_frontier.proofs.joining.moved.Given as goal

abbrev pub invariant-loop-k : goal.invariant-loop-k
invariant-loop-k g l = l.coefficients.items ≡ listed (moved_at g.C.Ring.ring l.series l.shift l.low) l.k
