use Rattle.tv_acceptance.proofs.Excluded.{same_web}
use Rattle.tv_acceptance.proofs.laws.accepted_file_has_one_web.Goals as goal

pub returns : goal.returns
returns c = same_web
