use Rattle.tv_spec_plane.specs.Web.{compact}
use Rattle.tv_spec_boxes.proofs.Vectors.{part_by}
use Rattle.tv_assignment.proofs.Summed.{IsSummed}
use Rattle.tv_assigned_series.proofs.class.entry_of.Given as goal

abbrev pub invariant-loop-e : goal.invariant-loop-e
invariant-loop-e l = IsSummed (part_by l.web l.k) 402 (compact l.web) l.assignment l.e l.total
