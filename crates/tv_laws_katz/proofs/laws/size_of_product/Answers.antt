use Rattle.tv_laws_katz.proofs.TermSizes.{size_of_product}
use Rattle.tv_laws_katz.proofs.laws.size_of_product.Goals as goal

pub returns : goal.returns
returns c = size_of_product
