use Rattle.std.proofs.Common.{w64}
use Rattle.std.proofs.lemmas.Int.{to_z-of_z}
use Rattle.tv_text.specs.declared.series.Kind.TheVariants.{Full}
use Rattle.tv_answers.proofs.FullReport.{full_carried_out}
use Rattle.tv_answers.proofs.ResidueReport.{by_residues_carried_out}
use Rattle.tv_answers.proofs.WideNumbers.{crowded}
use Rattle.tv_answers.proofs.series.full_answer.Goals as goal

pub returns-in-Ok : goal.returns-in-Ok
returns-in-Ok c = full_carried_out c.args.web.now c.args.degree c.args.upto c.in-Ok.series _ (rw (to_z-of_z w64 c.args.upto c.ranges.upto) at c.in-Ok.ensures.full) c.print.ensures

pub returns-in-Err-Wide : goal.returns-in-Err-Wide
returns-in-Err-Wide c =
    let crowd = crowded c.args.web.now c.args.degree c.args.upto _ c.known.ensures.graded (rw (to_z-of_z w64 c.args.upto c.ranges.upto, c.in-Err-Wide.field-0-is) at c.in-Err-Wide.ensures.wide) in
    by_residues_carried_out Full c.args.web.now c.args.degree c.args.upto _ (_, crowd) (rw (to_z-of_z w64 c.args.upto c.ranges.upto) at c.by_residues.ensures)
