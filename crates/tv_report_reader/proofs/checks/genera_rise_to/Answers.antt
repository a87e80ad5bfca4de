use Rattle.std.proofs.Common.{sym}
use Rattle.tv_report_reader.proofs.Ends.{GeneraRiseTo-last}
use Rattle.tv_report_reader.proofs.checks.genera_rise_to.Goals as goal

pub returns-in-Some : goal.returns-in-Some
returns-in-Some c =
    let last = GeneraRiseTo-last c.args.integers.now c.args.integer.now.genus c.in-Some.last.now (sym c.in-Some.ensures.value) in
    (λ h. last.1 (c.is_of_less.ensures.0 h), λ h. c.is_of_less.ensures.1 (last.0 h))
