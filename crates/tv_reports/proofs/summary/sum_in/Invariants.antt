use Rattle.tv_spec_reports.specs.Summaries.{sum_in}
use Rattle.tv_reports.proofs.Remainders.{IsSummed}
use Rattle.tv_reports.proofs.summary.sum_in.Given as goal

abbrev pub invariant-loop-section : goal.invariant-loop-section
invariant-loop-section l = IsSummed sum_in l.sections l.section-index l.sum
