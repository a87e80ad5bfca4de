use Rattle.tv_laws_reports.proofs.Verified.{reports_are_verified}
use Rattle.tv_laws_reports.proofs.verdicts.reports_are_verified.Goals as goal

pub returns : goal.returns
returns c = reports_are_verified
