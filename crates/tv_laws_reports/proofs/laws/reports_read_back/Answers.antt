use Rattle.tv_laws_reports.proofs.Fitting.{reports_read_back}
use Rattle.tv_laws_reports.proofs.laws.reports_read_back.Goals as goal

pub returns : goal.returns
returns c = reports_read_back
