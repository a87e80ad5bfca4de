use Rattle.tv_reports.proofs.IntegerSections.{text_tells}
use Rattle.tv_reports.proofs.laws.text_tells_integers.Goals as goal

pub returns : goal.returns
returns c = record { law = text_tells }
