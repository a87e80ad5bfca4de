use Rattle.std.proofs.Common.{w64, rules, FitsSigned}
use Rattle.std.specs.Int.{w128}
use Rattle.std.proofs.lemmas.Int.{to_z-of_z}
use Rattle.tv_answers.proofs.IntegersReport.{IsSuited, extractable, gv_carried_out, majorant_told, difference_told}
use Rattle.tv_answers.proofs.gv.integers_answer.Goals as goal

pub extract-requires : goal.extract-requires
extract-requires c =
    let web = c.known.ensures in let w = c.args.web.now in
    let suited : IsSuited w = record { graded = web.graded; heights = web.heighted.one_each; rule = web.rule; coordinates = web.coordinates } in
    record { extractable = extractable w c.args.degree c.args.upto c.args.series suited c.requires.degree c.requires.order c.requires.reduced }

pub returns-in-Ok : goal.returns-in-Ok
returns-in-Ok c =
    let web = c.known.ensures in let w = c.args.web.now in
    let suited : IsSuited w = record { graded = web.graded; heights = web.heighted.one_each; rule = web.rule; coordinates = web.coordinates } in
    gv_carried_out w c.args.degree c.args.upto c.args.series suited c.requires.degree c.requires.order c.requires.reduced c.in-Ok.integers _ c.print.ensures

pub returns-in-Err-Wide : goal.returns-in-Err-Wide
returns-in-Err-Wide c =
    let web = c.known.ensures in let w = c.args.web.now in
    let suited : IsSuited w = record { graded = web.graded; heights = web.heighted.one_each; rule = web.rule; coordinates = web.coordinates } in
    let fits : FitsSigned w64 c.in-Err-Wide.exponent = search rules in
    majorant_told w c.args.degree c.args.upto c.args.series suited c.requires.degree c.requires.order c.requires.reduced c.in-Err-Wide.class c.in-Err-Wide.exponent _
    (rw c.in-Err-Wide.field-0-is at c.in-Err-Wide.ensures.fault) (rw (to_z-of_z w64 c.in-Err-Wide.exponent fits) at c.beyond_majorant.ensures)

pub returns-in-Err-Mismatch : goal.returns-in-Err-Mismatch
returns-in-Err-Mismatch c =
    let web = c.known.ensures in let w = c.args.web.now in
    let suited : IsSuited w = record { graded = web.graded; heights = web.heighted.one_each; rule = web.rule; coordinates = web.coordinates } in
    let fits : FitsSigned w64 c.in-Err-Mismatch.exponent = search rules in
    let fits_series : FitsSigned w128 c.get.result = search rules in
    let fits_product : FitsSigned w128 c.get-in-Err-Mismatch.result = search rules in
    difference_told w c.args.degree c.args.upto c.args.series suited c.requires.degree c.requires.order c.requires.reduced c.in-Err-Mismatch.class c.in-Err-Mismatch.exponent c.in-Err-Mismatch.series c.in-Err-Mismatch.product _
    (rw c.in-Err-Mismatch.field-0-is at c.in-Err-Mismatch.ensures.fault)
    (rw c.get.ensures.value at c.get.ensures.range) (rw c.get-in-Err-Mismatch.ensures.value at c.get-in-Err-Mismatch.ensures.range)
    (rw (c.get.ensures.value, c.get-in-Err-Mismatch.ensures.value) at
    (simp (to_z-of_z w64 c.in-Err-Mismatch.exponent fits, to_z-of_z w128 c.get.result fits_series, to_z-of_z w128 c.get-in-Err-Mismatch.result fits_product) at c.differs.ensures))
