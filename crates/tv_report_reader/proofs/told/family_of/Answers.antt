use Rattle.std.proofs.Common.{◌∙◌, ap}
use Rattle.tv_spec_reports.specs.Grammar.{GvData}
use Rattle.tv_report_reader.proofs.Families.{starts, without-as}
use Rattle.tv_report_reader.proofs.told.family_of.Goals as goal

pub put_sections-requires : goal.put_sections-requires
put_sections-requires c =
    let view = c.read.view_is in
    starts c.args.read.now _ _ c.requires
    (c.new-family.ensures.value ∙ without-as c.args.read.now _ _ _ c.requires (c.in_ok-heights.ensures.value ∙ ap (λ (d : GvData). d.heights) view) (ap (λ (d : GvData). d.degree) view) (ap (λ (d : GvData). d.upto) view))
    (c.deref.ensures.value ∙ ap (λ (d : GvData). d.sections) view)
