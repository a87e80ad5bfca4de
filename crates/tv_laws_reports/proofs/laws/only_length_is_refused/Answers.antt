use Rattle.tv_laws_reports.proofs.Short.{only_length_refused}
use Rattle.tv_laws_reports.proofs.laws.only_length_is_refused.Goals as goal

pub returns : goal.returns
returns c = only_length_refused
