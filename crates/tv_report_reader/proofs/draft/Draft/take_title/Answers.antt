use Rattle.std.proofs.Common.{refl}
use Rattle.tv_report_reader.proofs.HeadSteps.{Leads-as, Stops-as, title-leads, title-stops}
use Rattle.tv_report_reader.specs.declared.stage.Stage.TheVariants.{Opening}
use Rattle.tv_report_reader.proofs.draft.Draft.take_title.Goals as goal

pub returns-then-not-is_title : goal.returns-then-not-is_title
returns-then-not-is_title c = Stops-as _ Opening _ _ _ c.requires refl (title-stops _ _ (λ e. let done = c.if-not-is_title.ensures.1 e in cc))

pub returns : goal.returns
returns c = Leads-as _ Opening _ _ _ _ _ c.requires (c.if-not-is_title.ensures.0 refl) (title-leads _)
