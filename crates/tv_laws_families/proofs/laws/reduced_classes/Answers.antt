use Rattle.tv_laws_families.proofs.ReducedClasses.{reduced_classes}
use Rattle.tv_laws_families.proofs.laws.reduced_classes.Goals as goal

pub returns : goal.returns
returns g c = record { law = reduced_classes g.met.C.Ring.laws }
