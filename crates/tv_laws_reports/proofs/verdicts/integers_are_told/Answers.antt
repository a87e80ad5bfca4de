use Rattle.tv_laws_reports.proofs.ToldIntegers.{integers_are_told}
use Rattle.tv_laws_reports.proofs.verdicts.integers_are_told.Goals as goal

pub returns : goal.returns
returns c = integers_are_told
