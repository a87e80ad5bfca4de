use Rattle.tv_report_reader.proofs.Readings.{IsReport-accepted}
use Rattle.tv_report_reader.proofs.laws.no_refusal_of_a_report.Goals as goal

pub returns : goal.returns
returns c = IsReport-accepted
