use Rattle.tv_assigned_series.proofs.Entries.{IsWritten}
use Rattle.tv_assigned_series.proofs.class.class_of.Given as goal

abbrev pub invariant-loop-k : goal.invariant-loop-k
invariant-loop-k l = IsWritten l.web l.assignment l.k l.entries.items
