use Rattle.tv_report_reader.proofs.Putting.{Half}
use Rattle.tv_report_reader.proofs.integers.put_part.Given as goal

abbrev pub invariant-loop-k : goal.invariant-loop-k
invariant-loop-k l = Half l.initial.integers l.part l.k l.integers
