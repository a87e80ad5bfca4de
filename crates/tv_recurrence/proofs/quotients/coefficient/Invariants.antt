use Rattle.tv_recurrence.specs.Parts.{part_total, part_size}
use Rattle.tv_recurrence.proofs.PartialSums.{IsPartial}
use Rattle.tv_recurrence.proofs.quotients.coefficient.Given as goal

abbrev pub invariant-loop-part : goal.invariant-loop-part
invariant-loop-part l = IsPartial (part_total l.weight) (part_size l.weight) l.parts l.part-index l.sum
