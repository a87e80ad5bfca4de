use Rattle.std.proofs.Common.{◌∙◌, ap}
use Rattle.tv_spec_reports.specs.IntegerLines.{GenusValue, GvSection}
use Rattle.tv_report_reader.proofs.Putting.{put-front}
use Rattle.tv_report_reader.proofs.integers.put.Goals as goal

pub returns : goal.returns
returns c = c.in_ok-put.ensures.ok ∙ put-front c.args.integers.now _ _ _ c.args.part.now c.args.integer.now c.known.ensures.kept c.requires
    (c.in_ok-class.ensures.value ∙ ap (λ (p : GvSection). p.section.entries) c.part.view_is) (ap (λ (i : GenusValue). i.genus) c.integer.view_is) c.in_ok-value.ensures
