use Rattle.std.proofs.Common.{w64, rules, FitsSigned}
use Rattle.std.proofs.lemmas.Int.{to_z-of_z}
use Rattle.tv_answers.proofs.IntegersReport.{gv_crowd_told, gv_spread_told}
use Rattle.tv_answers.proofs.WideNumbers.{crowded, spread}
use Rattle.tv_answers.proofs.gv.gv_answer.Goals as goal

pub returns-in-Err-Crowd : goal.returns-in-Err-Crowd
returns-in-Err-Crowd c = gv_crowd_told c.args.web.now c.args.degree c.args.upto c.in-Err-Crowd.class _ (crowded c.args.web.now c.args.degree c.args.upto c.in-Err-Crowd.class c.known.ensures.graded (rw (to_z-of_z w64 c.args.upto c.ranges.upto, c.in-Err-Crowd.field-0-is) at c.in-Err-Crowd.ensures.wide)) c.too_crowded.ensures

pub returns-in-Err-Spread : goal.returns-in-Err-Spread
returns-in-Err-Spread c =
    let fits : FitsSigned w64 c.in-Err-Spread.exponent = search rules in
    gv_spread_told c.args.web.now c.args.degree c.args.upto c.in-Err-Spread.class c.in-Err-Spread.exponent _ (spread c.args.web.now c.args.degree c.args.upto c.in-Err-Spread.class c.in-Err-Spread.exponent (rw (to_z-of_z w64 c.args.upto c.ranges.upto, c.in-Err-Spread.field-0-is) at c.in-Err-Spread.ensures.wide)) (rw (to_z-of_z w64 c.in-Err-Spread.exponent fits) at c.spread_out.ensures)
