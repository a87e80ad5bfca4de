use Rattle.tv_spec_reports.specs.Summaries.{sum_of_terms}
use Rattle.tv_reports.proofs.Remainders.{IsSummed}
use Rattle.tv_reports.proofs.summary.sum_of_terms.Given as goal

abbrev pub invariant-loop-term : goal.invariant-loop-term
invariant-loop-term l = IsSummed sum_of_terms l.terms l.term-index l.sum
