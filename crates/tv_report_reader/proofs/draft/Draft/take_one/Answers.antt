use Rattle.std.proofs.Common.{refl}
use Rattle.tv_report_reader.proofs.HeadSteps.{Leads-as, Stops-as, one-leads, one-stops, one-unfit}
use Rattle.tv_report_reader.specs.declared.stage.Stage.TheVariants.{One}
use Rattle.tv_report_reader.proofs.draft.Draft.take_one.Goals as goal

pub returns-in_default : goal.returns-in_default
returns-in_default c = Stops-as _ One _ _ _ c.requires refl (one-stops _ _ c.in_default.ensures)

pub returns-then-not-is_one : goal.returns-then-not-is_one
returns-then-not-is_one c = Stops-as _ One _ _ _ c.requires c.in-Some.ensures.1 (one-unfit _ c.in-Some.term c.in-Some.ensures.0 (λ e f. let b = c.if-not-is_one.ensures.1 (e, f) in cc))

pub returns : goal.returns
returns c = let one = c.if-not-is_one.ensures.0 refl in Leads-as _ One _ _ _ _ _ c.requires c.in-Some.ensures.1 (one-leads _ c.in-Some.term _ one.0 one.1 c.in_ok-push.ensures.items)
