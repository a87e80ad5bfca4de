use Rattle.tv_laws_katz.proofs.FurtherInteger.{new_integer}
use Rattle.tv_laws_katz.proofs.laws.new_integer.Goals as goal

pub returns : goal.returns
returns c = new_integer
