use Rattle.std.proofs.Common.{w64, subst}
use Rattle.std.proofs.lemmas.Int.{to_z-of_z}
use Rattle.tv_ring.specs.Whole.{wholes}
use Rattle.tv_spec_plane.specs.Web.{Web}
use Rattle.tv_spec_boxes.specs.Assignments.{no_legs}
use Rattle.tv_spec_series.specs.Full.{IsFull}
use Rattle.tv_answers.specs.SeriesReport.{IsCrowded}
use Rattle.tv_answers.proofs.SummaryReport.{summary_carried_out}
use Rattle.tv_answers.proofs.WideNumbers.{crowded, summary_crowd_told}
use Rattle.tv_answers.proofs.grids.summary_of.Goals as goal

pub returns-in-Ok : goal.returns-in-Ok
returns-in-Ok c =
    let full = rw (to_z-of_z w64 c.args.upto c.ranges.upto) at c.in-Ok.ensures.full in
    summary_carried_out c.args.side c.args.degree c.args.upto c.in-Ok.series _
    (subst (λ (w : Web). IsFull wholes w (no_legs w) c.args.degree c.args.upto c.in-Ok.series) c.requires.web full)
    (rw (to_z-of_z w64 c.args.upto c.ranges.upto) at c.summarize_series.ensures)

pub returns-in-Err-Wide : goal.returns-in-Err-Wide
returns-in-Err-Wide c =
    let wide = rw (to_z-of_z w64 c.args.upto c.ranges.upto, c.in-Err-Wide.field-0-is) at c.in-Err-Wide.ensures.wide in
    let crowd = crowded c.args.web.now c.args.degree c.args.upto c.in-Err-Wide.class c.known.ensures.graded wide in
    summary_crowd_told c.args.side c.args.degree c.args.upto c.in-Err-Wide.class _
    (subst (λ (w : Web). IsCrowded w c.args.degree c.args.upto c.in-Err-Wide.class) c.requires.web crowd) c.too_crowded.ensures
