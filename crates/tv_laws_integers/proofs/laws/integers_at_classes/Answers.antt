use Rattle.tv_laws_integers.proofs.AtClasses.{integers_at_classes}
use Rattle.tv_laws_integers.proofs.laws.integers_at_classes.Goals as goal

pub returns : goal.returns
returns c = integers_at_classes
