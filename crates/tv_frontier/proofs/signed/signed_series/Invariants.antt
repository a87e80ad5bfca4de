use Rattle.std.proofs.Common.{◌≡◌}
use Rattle.tv_laws_series.specs.Terms.{listed}
use Rattle.tv_frontier.specs.Signs.{signed_at}
use Rattle.tv_frontier.proofs.signed.signed_series.Given as goal

abbrev pub invariant-loop-k : goal.invariant-loop-k
invariant-loop-k g l = l.coefficients.items ≡ listed (signed_at g.C.Ring.ring l.web.points l.class l.series l.low) l.k
