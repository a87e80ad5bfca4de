use Rattle.tv_recurrence.proofs.TakenSums.{IsTaken}
use Rattle.tv_recurrence.proofs.shares.taken.Given as goal

abbrev pub invariant-loop-row : goal.invariant-loop-row
invariant-loop-row l = IsTaken (λ row. row.now) l.rows l.step l.fn.weight l.row-index l.left l.sum
