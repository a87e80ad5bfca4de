use Rattle.tv_laws_families.proofs.ZeroClass.{begins_with_one}
use Rattle.tv_laws_families.proofs.laws.class_zero_begins_with_one.Goals as goal

pub returns : goal.returns
returns c = begins_with_one
