use Rattle.tv_spec_text.specs.Files.{IsFile}
use Rattle.tv_spec_text.proofs.Places.{IsPlace-unique}
use Rattle.tv_text.proofs.laws.one_place.Goals as goal

pub returns : goal.returns
returns c = IsPlace-unique IsFile
