use Rattle.std.proofs.Common.{refl, ap, length, arith}
use Rattle.tv_text.proofs.Spellings.{same_number}
use Rattle.tv_report_reader.specs.declared.stage.Stage.TheVariants.{Zero}
use Rattle.tv_report_reader.proofs.Spelled.{numbers-entries}
use Rattle.tv_report_reader.proofs.HeadSteps.{Leads-as, Stops-as, zero-leads, zero-stops, zero-unfit}
use Rattle.tv_report_reader.proofs.draft.Draft.take_zero.Goals as goal

pub returns-in_default : goal.returns-in_default
returns-in_default c = Stops-as _ Zero _ _ _ c.requires refl (zero-stops _ _ (rw c.in_default.is at c.in_ok-degree.ensures))

pub returns-then-not-is_zero_class : goal.returns-then-not-is_zero_class
returns-then-not-is_zero_class c =
    let row = rw c.in-Some.is at c.in_ok-degree.ensures in
    let told = rw (same_number c.in-Some.degree row.0, c.deref.ensures.value, c.values.ensures.value) at c.if-not-is_zero_class.ensures in
    Stops-as _ Zero _ _ _ c.requires row.2 (zero-unfit _ c.in-Some.degree c.in-Some.entries.items row.0 row.1 (λ zero. let b = told.1 zero in cc))

pub new-requires : goal.new-requires
new-requires c =
    let row = rw c.in-Some.is at c.in_ok-degree.ensures in
    let told = rw (same_number c.in-Some.degree row.0, c.deref.ensures.value, c.values.ensures.value) at c.if-not-is_zero_class.ensures in
    let zero = told.0 refl in
    numbers-entries c.in-Some.entries.items (omega (arith, zero.count, c.values.ensures.few, ap length c.values.ensures.value)) row.1

pub returns : goal.returns
returns c =
    let row = rw c.in-Some.is at c.in_ok-degree.ensures in
    let told = rw (same_number c.in-Some.degree row.0, c.deref.ensures.value, c.values.ensures.value) at c.if-not-is_zero_class.ensures in
    rw (same_number c.in-Some.degree row.0, c.new.ensures) (Leads-as _ Zero _ _ _ _ _ c.requires row.2 (zero-leads _ c.in-Some.degree c.in-Some.entries.items (told.0 refl)))
