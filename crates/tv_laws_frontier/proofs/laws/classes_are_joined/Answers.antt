use Rattle.tv_laws_frontier.proofs.StateClasses.{classes_step}
use Rattle.tv_laws_frontier.proofs.laws.classes_are_joined.Goals as goal

pub returns : goal.returns
returns c = classes_step
