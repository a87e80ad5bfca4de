use Rattle.tv_laws_katz.proofs.LargerBound.{product-absolute}
use Rattle.tv_laws_katz.proofs.laws.absolute_is_product.Goals as goal

pub returns : goal.returns
returns c = product-absolute
