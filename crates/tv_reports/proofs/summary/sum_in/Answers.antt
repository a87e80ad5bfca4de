use Rattle.std.proofs.Common.{refl}
use Rattle.tv_spec_text.specs.Reports.{Section}
use Rattle.tv_spec_reports.specs.Summaries.{sum_of_terms, sum_in}
use Rattle.tv_reports.proofs.Remainders.{summed_none, summed_one}
use Rattle.tv_reports.proofs.summary.sum_in.Goals as goal

pub loop-section-init : goal.loop-section-init
loop-section-init c = summed_none sum_in c.args.sections.now

pub loop-section-preserved : goal.loop-section-preserved
loop-section-preserved c = summed_one sum_in (λ (s : Section). sum_of_terms s.terms) (λ x rest. refl) c.args.sections.now c.loop-section.section-index c.loop-section.sum c.sum_of_section.result c.section-item.result c.loop-section-test.true c.section-item.is c.sum_of_section.ensures c.loop-section.invariant
