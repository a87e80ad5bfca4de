use Rattle.tv_json.proofs.Exact.{IsFileJson-unique}
use Rattle.tv_json.proofs.laws.one_file.Goals as goal

pub returns : goal.returns
returns c = IsFileJson-unique
