use Rattle.std.proofs.Common.{arith, w64, to_z}
use Rattle.std.proofs.lemmas.Int.{ints}
use Rattle.tv_reports.proofs.Sections.{none_kept, one_kept, all_kept}
use Rattle.tv_reports.proofs.series.terms_of.Goals as goal

pub loop-n-init : goal.loop-n-init
loop-n-init c = none_kept c.args.series.now _ c.new-terms.result.items (omega (arith, ints)) c.new-terms.ensures.items

pub loop-n-preserved : goal.loop-n-preserved
loop-n-preserved c = one_kept c.args.series.now (to_z w64 c.loop-n.n-bits) _ c.loop-n.terms.items _ (omega (arith, ints)) (omega (arith, ints)) c.loop-n.invariant c.in_ok-push_coefficient.ensures.value c.in_ok-push_coefficient.ensures.small

pub returns-clause-value : goal.returns-clause-value
returns-clause-value c = all_kept c.args.series.now (to_z w64 c.loop-n.n-bits) c.loop-n.terms.items (omega (arith, ints)) c.loop-n.invariant
