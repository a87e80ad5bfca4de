use Rattle.std.proofs.Common.{◌≡◌, drop}
use Rattle.tv_spec_reports.specs.Summaries.{value_at}
use Rattle.tv_reports.proofs.summary.value_at.Given as goal

abbrev pub invariant-loop-term : goal.invariant-loop-term
invariant-loop-term l = value_at l.exponent (drop l.term-index l.terms) ≡ value_at l.exponent l.terms
