use Rattle.std.proofs.Common.{refl}
use Rattle.tv_text.proofs.Spellings.{same_number}
use Rattle.tv_report_reader.proofs.HeadSteps.{Leads-as, Stops-as, upto-leads, upto-stops, upto-unfit}
use Rattle.tv_report_reader.specs.declared.stage.Stage.TheVariants.{Upto}
use Rattle.tv_report_reader.proofs.draft.Draft.take_upto.Goals as goal

pub returns-in_default : goal.returns-in_default
returns-in_default c = Stops-as _ Upto _ _ _ c.requires refl (upto-stops _ _ c.in_default.ensures)

pub returns-then-not-is_order : goal.returns-then-not-is_order
returns-then-not-is_order c =
    let z = c.in-Some.upto in
    let row = c.in-Some.ensures in
    let told = rw (same_number z row.0) at c.if-not-is_order.ensures in
    Stops-as _ Upto _ _ _ c.requires row.1 (upto-unfit _ z row.0 (λ fit. let b = told.1 fit in cc))

pub returns : goal.returns
returns c =
    let z = c.in-Some.upto in
    let row = c.in-Some.ensures in
    let told = rw (same_number z row.0) at c.if-not-is_order.ensures in
    rw (same_number z row.0) (Leads-as _ Upto _ _ _ _ _ c.requires row.1 (upto-leads _ z (told.0 refl)))
