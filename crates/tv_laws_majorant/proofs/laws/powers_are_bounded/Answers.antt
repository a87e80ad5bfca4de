use Rattle.tv_laws_majorant.proofs.Leads.{powers_are_bounded}
use Rattle.tv_laws_majorant.proofs.laws.powers_are_bounded.Goals as goal

pub returns : goal.returns
returns c = powers_are_bounded
