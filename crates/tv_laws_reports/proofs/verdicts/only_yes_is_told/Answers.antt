use Rattle.tv_laws_reports.proofs.Verified.{only_yes_is_told}
use Rattle.tv_laws_reports.proofs.verdicts.only_yes_is_told.Goals as goal

pub returns : goal.returns
returns c = only_yes_is_told
