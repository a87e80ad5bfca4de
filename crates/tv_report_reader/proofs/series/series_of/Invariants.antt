use Rattle.tv_report_reader.proofs.Dense.{Filled}
use Rattle.tv_report_reader.proofs.series.series_of.Given as goal

abbrev pub invariant-loop-k : goal.invariant-loop-k
invariant-loop-k l = Filled l.terms l.low l.coefficients.items l.next l.k
