use Rattle.std.proofs.Common.{◌≡◌}
use Rattle.tv_assigned_series.specs.Terms.{front_terms}
use Rattle.tv_assigned_series.proofs.Gathered.{gathered}
use Rattle.tv_assigned_series.proofs.product.product.Given as goal

abbrev pub invariant-loop-corner : goal.invariant-loop-corner
invariant-loop-corner g l = l.product ≡ front_terms g.C.Ring.ring (gathered l.legs l.corner-index) l.k
