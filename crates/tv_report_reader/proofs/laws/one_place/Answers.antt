use Rattle.tv_spec_text.proofs.Places.{IsPlace-unique}
use Rattle.tv_spec_reports.specs.Grammar.{IsGv}
use Rattle.tv_report_reader.proofs.laws.one_place.Goals as goal

pub returns : goal.returns
returns c = IsPlace-unique IsGv
