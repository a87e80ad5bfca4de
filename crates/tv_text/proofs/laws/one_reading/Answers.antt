use Rattle.tv_spec_text.proofs.Readings.{Spells-unique}
use Rattle.tv_text.proofs.laws.one_reading.Goals as goal

pub returns : goal.returns
returns c = Spells-unique
