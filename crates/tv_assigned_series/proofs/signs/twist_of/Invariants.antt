use Rattle.tv_spec_plane.specs.Web.{compact}
use Rattle.tv_spec_boxes.specs.Assignments.{twist_by}
use Rattle.tv_assignment.proofs.Summed.{IsSummed}
use Rattle.tv_assigned_series.proofs.signs.twist_of.Given as goal

abbrev pub invariant-loop-e : goal.invariant-loop-e
invariant-loop-e l = IsSummed (twist_by l.web) 402 (compact l.web) l.assignment l.e l.total
