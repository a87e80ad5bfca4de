use Rattle.tv_laws_integers.proofs.AtClasses.{reduced_classes_add_up}
use Rattle.tv_laws_integers.proofs.laws.reduced_classes_add_up.Goals as goal

pub returns : goal.returns
returns c = reduced_classes_add_up
