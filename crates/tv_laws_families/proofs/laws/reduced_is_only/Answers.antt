use Rattle.tv_laws_families.proofs.Only.{reduced_is_only}
use Rattle.tv_laws_families.proofs.laws.reduced_is_only.Goals as goal

pub returns : goal.returns
returns g c = record { law = reduced_is_only g.C.Ring.ring }
