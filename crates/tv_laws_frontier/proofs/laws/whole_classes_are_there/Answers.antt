use Rattle.tv_laws_frontier.proofs.StateClasses.{whole_classes}
use Rattle.tv_laws_frontier.proofs.laws.whole_classes_are_there.Goals as goal

pub returns : goal.returns
returns c = whole_classes
