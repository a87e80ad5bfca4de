use Rattle.tv_integers.proofs.Putting.{set_in_front}
use Rattle.tv_integers.proofs.laws.set_in_front.Goals as goal

pub returns : goal.returns
returns c = record { law = set_in_front }
