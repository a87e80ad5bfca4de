use Rattle.tv_laws_families.proofs.Full.{full_is_only}
use Rattle.tv_laws_families.proofs.laws.full_is_only.Goals as goal

pub returns : goal.returns
returns g c = record { law = full_is_only g.C.Ring.ring }
