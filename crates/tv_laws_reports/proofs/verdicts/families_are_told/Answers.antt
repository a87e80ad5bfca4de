use Rattle.tv_laws_reports.proofs.ToldFamilies.{families_are_told}
use Rattle.tv_laws_reports.proofs.verdicts.families_are_told.Goals as goal

pub returns : goal.returns
returns c = families_are_told
