use Rattle.tv_laws_sums.proofs.Both.{last-interlaces}
use Rattle.tv_laws_sums.proofs.laws.last_interlaces.Goals as goal

pub returns : goal.returns
returns c = last-interlaces
