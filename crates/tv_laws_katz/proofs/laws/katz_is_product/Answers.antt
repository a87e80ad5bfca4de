use Rattle.tv_laws_katz.proofs.LargerBound.{product-katz}
use Rattle.tv_laws_katz.proofs.laws.katz_is_product.Goals as goal

pub returns : goal.returns
returns c = product-katz
