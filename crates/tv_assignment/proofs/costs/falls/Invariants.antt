use Rattle.tv_spec_plane.specs.Web.{compact}
use Rattle.tv_spec_boxes.specs.Numbers.{fall_by}
use Rattle.tv_assignment.proofs.Summed.{IsSummed}
use Rattle.tv_assignment.proofs.costs.falls.Given as goal

abbrev pub invariant-loop-e : goal.invariant-loop-e
invariant-loop-e l = IsSummed (fall_by l.web) 48001 (compact l.web) l.assignment l.e l.total
