use Rattle.tv_laws_majorant.proofs.Leads.{leads_are_bounded}
use Rattle.tv_laws_majorant.proofs.laws.leads_are_bounded.Goals as goal

pub returns : goal.returns
returns c = leads_are_bounded
