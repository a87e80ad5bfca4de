use Rattle.std.proofs.Common.{refl}
use Rattle.tv_report_reader.specs.Drafts.{seen_of}
use Rattle.tv_report_reader.specs.declared.stage.Stage.TheVariants.{Closed}
use Rattle.tv_report_reader.proofs.HeadSteps.{Stops-as}
use Rattle.tv_report_reader.proofs.BodySteps.{integer-leads, integer-unfit, integer-stops}
use Rattle.tv_report_reader.proofs.draft.Draft.take_integer.Goals as goal

pub returns-then-is_closed : goal.returns-then-is_closed
returns-then-is_closed c = Stops-as _ Closed _ _ _ (c.if-is_closed.ensures.0 refl) refl (integer-stops _ c.args.integer)

pub returns-then-not-genera_rise_to : goal.returns-then-not-genera_rise_to
returns-then-not-genera_rise_to c =
    let told = rw c.deref.ensures.value at c.if-not-genera_rise_to.ensures in
    integer-unfit _ (seen_of c.args.self.now) c.args.integer c.requires.stage (λ e. let b = c.if-is_closed.ensures.1 e in cc) c.requires.fits (λ rises. let b = told.1 rises in cc)

pub returns : goal.returns
returns c =
    let told = rw c.deref.ensures.value at c.if-not-genera_rise_to.ensures in
    integer-leads _ (seen_of c.args.self.now) c.args.integer _ c.requires.stage (λ e. let b = c.if-is_closed.ensures.1 e in cc) c.requires.fits (told.0 refl) c.in_ok-push.ensures.items
