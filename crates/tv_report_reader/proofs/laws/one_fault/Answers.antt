use Rattle.tv_report_reader.proofs.Readings.{IsReportFault-unique}
use Rattle.tv_report_reader.proofs.laws.one_fault.Goals as goal

pub returns : goal.returns
returns c = IsReportFault-unique
