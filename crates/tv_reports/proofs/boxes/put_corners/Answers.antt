use Rattle.std.proofs.Common.{◌++◌, ◌∙◌, ap, map}
use Rattle.std.specs.Prelude.{string_bytes}
use Rattle.std.specs.List.{flat_map}
use Rattle.tv_spec_text.specs.Lines.{line_text}
use Rattle.tv_spec_reports.specs.Boxes.{box_line}
use Rattle.tv_reports.proofs.Configs.{corners_one, corners_all}
use Rattle.tv_reports.proofs.boxes.put_corners.Goals as goal

pub loop-t-preserved : goal.loop-t-preserved
loop-t-preserved c = corners_one c.args.extras.now c.loop-t.t c.index-extras-t.result _ _ _ c.loop-t-test.true c.loop-t.invariant
    (c.in_ok-put_boxes.ensures ∙ ap (λ cells. string_bytes c.loop-t.text ++ flat_map line_text (map (box_line c.loop-t.t) cells)) (c.as_slice.ensures.value ∙ ap (λ v. v.items) c.index-extras-t.is))

pub returns : goal.returns
returns c = corners_all c.args.extras.now c.loop-t.t _ _ c.loop-t-test.false c.loop-t.invariant
