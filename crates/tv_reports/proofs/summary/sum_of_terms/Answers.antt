use Rattle.std.proofs.Common.{refl}
use Rattle.tv_spec_text.specs.Reports.{Term}
use Rattle.tv_spec_reports.specs.Summaries.{sum_of_terms}
use Rattle.tv_reports.proofs.Remainders.{summed_none, summed_one}
use Rattle.tv_reports.proofs.summary.sum_of_terms.Goals as goal

pub loop-term-init : goal.loop-term-init
loop-term-init c = summed_none sum_of_terms c.args.terms.now

pub loop-term-preserved : goal.loop-term-preserved
loop-term-preserved c = summed_one sum_of_terms (λ (t : Term). t.coefficient) (λ x rest. refl) c.args.terms.now c.loop-term.term-index c.loop-term.sum c.remainder_of.result c.term-item.result c.loop-term-test.true c.term-item.is c.remainder_of.ensures c.loop-term.invariant
