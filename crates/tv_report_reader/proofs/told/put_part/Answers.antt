use Rattle.std.proofs.Common.{◌≡◌, ℤ, w64, ◌∙◌, ap, arith}
use Rattle.std.proofs.lemmas.Int.{ints, to_z-of_z}
use Rattle.tv_laws_series.specs.Terms.{Terms, upto}
use Rattle.tv_spec_reports.specs.IntegerLines.{GvSection}
use Rattle.tv_report_reader.proofs.Dense.{series-upto}
use Rattle.tv_report_reader.proofs.told.put_part.Goals as goal

pub series_of-requires : goal.series_of-requires
series_of-requires c =
    let up = to_z-of_z w64 c.upto.result (record { sfits = c.upto.type_inv }) ∙ c.upto.ensures.value in
    let ts = c.deref.ensures.value ∙ ap (λ (p : GvSection). p.section.terms) c.part.view_is in
    rw (up, ts) c.requires.terms

pub add_into-requires-clause-place : goal.add_into-requires-clause-place
add_into-requires-clause-place c =
    let class = c.in_ok-class.ensures.value ∙ ap (λ (p : GvSection). p.section.entries) c.part.view_is in
    rw class c.requires.place

pub add_into-requires-clause-known : goal.add_into-requires-clause-known
add_into-requires-clause-known c =
    let up = to_z-of_z w64 c.upto.result (record { sfits = c.upto.type_inv }) ∙ c.upto.ensures.value in
    let ts = c.deref.ensures.value ∙ ap (λ (p : GvSection). p.section.terms) c.part.view_is in
    let series = rw (up, ts) at c.in_ok-series.ensures in
    let known : upto c.in_ok-series.series ≡ c.args.family.now.upto = ap (λ (t : Terms ℤ). upto t) series ∙ series-upto c.args.family.now.upto c.args.part.now.section.terms c.requires.terms in
    omega (arith, ints)

pub returns-in-Ok : goal.returns-in-Ok
returns-in-Ok c =
    let up = to_z-of_z w64 c.upto.result (record { sfits = c.upto.type_inv }) ∙ c.upto.ensures.value in
    let ts = c.deref.ensures.value ∙ ap (λ (p : GvSection). p.section.terms) c.part.view_is in
    let class = c.in_ok-class.ensures.value ∙ ap (λ (p : GvSection). p.section.entries) c.part.view_is in
    let series = rw (up, ts) at c.in_ok-series.ensures in
    rw (class, series) at c.in-Ok.ensures.ok
