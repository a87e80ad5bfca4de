use Rattle.tv_laws_families.proofs.Products.{only_quotient_is}
use Rattle.tv_laws_families.proofs.laws.only_quotient.Goals as goal

pub returns : goal.returns
returns c = only_quotient_is
