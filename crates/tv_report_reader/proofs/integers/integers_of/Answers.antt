use Rattle.std.proofs.Common.{◌∙◌, ap}
use Rattle.tv_integers.specs.Kept.{without_integers}
use Rattle.tv_spec_reports.specs.Grammar.{GvData}
use Rattle.tv_report_reader.proofs.Putting.{starts-integers}
use Rattle.tv_report_reader.proofs.integers.integers_of.Goals as goal

pub put_sections-requires : goal.put_sections-requires
put_sections-requires c =
    let view = c.read.view_is in
    starts-integers c.args.read.now _ _ c.requires
    (c.new-integers.ensures.value ∙ ap without_integers (c.in_ok-heights.ensures.value ∙ ap (λ (d : GvData). d.heights) view))
    (c.deref.ensures.value ∙ ap (λ (d : GvData). d.sections) view)
