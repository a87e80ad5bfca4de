use Rattle.tv_report_reader.proofs.Readings.{SpellsGv-unique}
use Rattle.tv_report_reader.proofs.laws.one_reading.Goals as goal

pub returns : goal.returns
returns c = SpellsGv-unique
