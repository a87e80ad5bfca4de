use Rattle.tv_recurrence.specs.Parts.{share, share_size}
use Rattle.tv_recurrence.proofs.PartialSums.{IsPartial}
use Rattle.tv_recurrence.proofs.shares.part_sum.Given as goal

abbrev pub invariant-loop-power : goal.invariant-loop-power
invariant-loop-power l = IsPartial (share l.part l.weight) (share_size l.part l.weight) l.part.powers l.power-index l.sum
