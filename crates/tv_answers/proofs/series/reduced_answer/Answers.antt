use Rattle.std.proofs.Common.{w64, inl, inr}
use Rattle.std.proofs.lemmas.Int.{to_z-of_z}
use Rattle.tv_text.specs.declared.series.Kind.TheVariants.{Reduced}
use Rattle.tv_answers.proofs.ReducedReport.{reduced_carried_out}
use Rattle.tv_answers.proofs.ResidueReport.{by_residues_carried_out}
use Rattle.tv_answers.proofs.WideNumbers.{crowded, spread}
use Rattle.tv_answers.proofs.series.reduced_answer.Goals as goal

pub returns-in-Ok : goal.returns-in-Ok
returns-in-Ok c = reduced_carried_out c.args.web.now c.args.degree c.args.upto c.in-Ok.series _ (rw (to_z-of_z w64 c.args.upto c.ranges.upto) at c.in-Ok.ensures.reduced) c.print.ensures

pub returns-in-Err-Crowd : goal.returns-in-Err-Crowd
returns-in-Err-Crowd c =
    let crowd = crowded c.args.web.now c.args.degree c.args.upto _ c.known.ensures.graded (rw (to_z-of_z w64 c.args.upto c.ranges.upto, c.in-Err-Crowd.field-0-is) at c.in-Err-Crowd.ensures.wide) in
    by_residues_carried_out Reduced c.args.web.now c.args.degree c.args.upto _ (inl (_, crowd)) (rw (to_z-of_z w64 c.args.upto c.ranges.upto) at c.by_residues.ensures)

pub returns-in-Err-Spread : goal.returns-in-Err-Spread
returns-in-Err-Spread c =
    let out = spread c.args.web.now c.args.degree c.args.upto _ _ (rw (to_z-of_z w64 c.args.upto c.ranges.upto, c.in-Err-Spread.field-0-is) at c.in-Err-Spread.ensures.wide) in
    by_residues_carried_out Reduced c.args.web.now c.args.degree c.args.upto _ (inr (_, (_, out))) (rw (to_z-of_z w64 c.args.upto c.ranges.upto) at c.by_residues-in-Err-Spread.ensures)
