use Rattle.std.proofs.Common.{refl}
use Rattle.tv_text.proofs.Spellings.{same_number}
use Rattle.tv_report_reader.proofs.HeadSteps.{Leads-as, Stops-as, degree-leads, degree-stops, degree-unfit}
use Rattle.tv_report_reader.specs.declared.stage.Stage.TheVariants.{Degree}
use Rattle.tv_report_reader.proofs.draft.Draft.take_degree.Goals as goal

pub returns-in_default : goal.returns-in_default
returns-in_default c = Stops-as _ Degree _ _ _ c.requires refl (degree-stops _ _ c.in_default.ensures)

pub returns-then-not-is_degree : goal.returns-then-not-is_degree
returns-then-not-is_degree c =
    let z = c.in-Some.degree in
    let row = c.in-Some.ensures in
    let told = rw (same_number z row.0) at c.if-not-is_degree.ensures in
    Stops-as _ Degree _ _ _ c.requires row.1 (degree-unfit _ z row.0 (λ fit. let b = told.1 fit in cc))

pub returns : goal.returns
returns c =
    let z = c.in-Some.degree in
    let row = c.in-Some.ensures in
    let told = rw (same_number z row.0) at c.if-not-is_degree.ensures in
    rw (same_number z row.0) (Leads-as _ Degree _ _ _ _ _ c.requires row.1 (degree-leads _ z (told.0 refl)))
