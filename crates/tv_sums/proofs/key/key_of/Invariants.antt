use Rattle.std.proofs.Common.{◌≡◌}
use Rattle.tv_laws_series.specs.Terms.{listed}
use Rattle.tv_laws_sums.specs.Mixed.{value}
use Rattle.tv_sums.proofs.key.key_of.Given as goal

abbrev pub invariant-loop-d : goal.invariant-loop-d
invariant-loop-d l = l.heights.items ≡ listed (value l.top l.a) l.d
