use Rattle.std.proofs.Common.{w64, rules, FitsSigned}
use Rattle.std.specs.Int.{w128}
use Rattle.std.proofs.lemmas.Int.{to_z-of_z}
use Rattle.tv_top.proofs.CheckedReply.{verified_found, beyond_found, difference_found}
use Rattle.tv_top.proofs.verification.verdict_on.Goals as goal

pub returns-in-Ok-Yes : goal.returns-in-Ok-Yes
returns-in-Ok-Yes c = verified_found c.args.report.now _ (rw c.in-Ok-Yes.field-0-is at c.in-Ok-Yes.ensures.verdict) c.say_yes.ensures

pub returns-in-Err-Wide : goal.returns-in-Err-Wide
returns-in-Err-Wide c =
    let fits : FitsSigned w64 c.in-Err-Wide.exponent = search rules in
    beyond_found c.args.report.now c.in-Err-Wide.class c.in-Err-Wide.exponent _
    (rw c.in-Err-Wide.field-0-is at c.in-Err-Wide.ensures.fault) (rw (to_z-of_z w64 c.in-Err-Wide.exponent fits) at c.beyond_majorant.ensures)

pub returns-in-Ok-Differs : goal.returns-in-Ok-Differs
returns-in-Ok-Differs c =
    let fits : FitsSigned w64 c.in-Ok-Differs.exponent = search rules in
    let fits_series : FitsSigned w128 c.get.result = search rules in
    let fits_product : FitsSigned w128 c.get-in-Ok-Differs.result = search rules in
    difference_found c.args.report.now c.in-Ok-Differs.class c.in-Ok-Differs.exponent c.in-Ok-Differs.series c.in-Ok-Differs.product _
    (rw c.in-Ok-Differs.field-0-is at c.in-Ok-Differs.ensures.verdict)
    (rw c.get.ensures.value at c.get.ensures.range) (rw c.get-in-Ok-Differs.ensures.value at c.get-in-Ok-Differs.ensures.range)
    (rw (c.get.ensures.value, c.get-in-Ok-Differs.ensures.value) at
    (simp (to_z-of_z w64 c.in-Ok-Differs.exponent fits, to_z-of_z w128 c.get.result fits_series, to_z-of_z w128 c.get-in-Ok-Differs.result fits_product) at c.differs.ensures))
