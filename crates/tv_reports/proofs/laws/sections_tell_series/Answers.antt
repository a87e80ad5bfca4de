use Rattle.tv_reports.proofs.Sections.{sections_tell}
use Rattle.tv_reports.proofs.laws.sections_tell_series.Goals as goal

pub returns : goal.returns
returns c = record { law = sections_tell }
