use Rattle.std.proofs.Common.{◌≡◌}
use Rattle.tv_assigned_series.specs.Terms.{front_terms}
use Rattle.tv_assigned_series.specs.Empties.{empties}
use Rattle.tv_assigned_series.proofs.empties.Powers.power.Given as goal

abbrev pub invariant-loop-place : goal.invariant-loop-place
invariant-loop-place g l = l.product ≡ front_terms g.C.Ring.ring (empties l.place) l.k
