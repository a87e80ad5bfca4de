use Rattle.tv_laws_counts.proofs.Crowds.{crowd_of_front}
use Rattle.tv_laws_counts.proofs.laws.crowd_bounds_front.Goals as goal

pub returns : goal.returns
returns c = crowd_of_front
