use Rattle.std.proofs.Common.{sym}
use Rattle.tv_report_reader.proofs.Ends.{RisesTo-last}
use Rattle.tv_report_reader.proofs.checks.rises_to.Goals as goal

pub returns-in-Some : goal.returns-in-Some
returns-in-Some c =
    let last = RisesTo-last c.args.terms.now c.args.term.now.exponent c.in-Some.last.now (sym c.in-Some.ensures.value) in
    (λ h. last.1 (c.is_before.ensures.0 h), λ h. c.is_before.ensures.1 (last.0 h))
