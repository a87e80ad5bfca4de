use Rattle.std.proofs.Common.{refl, sym, subst}
use Rattle.tv_report_reader.specs.Checks.{HeightsFit}
use Rattle.tv_report_reader.proofs.HeadSteps.{Leads-as, Stops-as, heights-leads, heights-stops, heights-unfit}
use Rattle.tv_report_reader.specs.declared.stage.Stage.TheVariants.{Heights}
use Rattle.tv_report_reader.proofs.draft.Draft.take_heights.Goals as goal

pub returns-in_default : goal.returns-in_default
returns-in_default c = Stops-as _ Heights _ _ _ c.requires refl (heights-stops _ _ (rw c.in_default.is at c.in_ok-heights.ensures))

pub returns-then-not-are_heights : goal.returns-then-not-are_heights
returns-then-not-are_heights c =
    let row = rw c.in-Some.is at c.in_ok-heights.ensures in
    Stops-as _ Heights _ _ _ c.requires row.1 (heights-unfit _ c.in-Some.heights.items row.0 (λ fit. let b = c.if-not-are_heights.ensures.1 (subst HeightsFit (sym c.deref.ensures.value) fit) in cc))

pub returns : goal.returns
returns c =
    let row = rw c.in-Some.is at c.in_ok-heights.ensures in
    let fit = subst HeightsFit c.deref.ensures.value (c.if-not-are_heights.ensures.0 refl) in
    rw c.new.ensures (Leads-as _ Heights _ _ _ _ _ c.requires row.1 (heights-leads _ c.in-Some.heights.items row.0 fit))
