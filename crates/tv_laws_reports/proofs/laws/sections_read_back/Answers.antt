use Rattle.tv_laws_reports.proofs.Printed.{sections_read_back}
use Rattle.tv_laws_reports.proofs.laws.sections_read_back.Goals as goal

pub returns : goal.returns
returns c = sections_read_back
