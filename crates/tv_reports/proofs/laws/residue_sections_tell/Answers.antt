use Rattle.tv_reports.proofs.ResidueTerms.{residue_sections_tell}
use Rattle.tv_reports.proofs.laws.residue_sections_tell.Goals as goal

pub returns : goal.returns
returns c = record { law = residue_sections_tell }
