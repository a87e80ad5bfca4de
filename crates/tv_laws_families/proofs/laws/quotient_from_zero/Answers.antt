use Rattle.tv_laws_families.proofs.Products.{quotient_from_zero}
use Rattle.tv_laws_families.proofs.laws.quotient_from_zero.Goals as goal

pub returns : goal.returns
returns c = quotient_from_zero
