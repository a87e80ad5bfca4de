use Rattle.tv_laws_reports.proofs.Short.{all_reports_read_back}
use Rattle.tv_laws_reports.proofs.laws.all_reports_read_back.Goals as goal

pub returns : goal.returns
returns c = all_reports_read_back
