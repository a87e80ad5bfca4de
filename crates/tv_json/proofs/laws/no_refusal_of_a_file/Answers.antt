use Rattle.tv_json.proofs.Exact.{IsJson-accepted}
use Rattle.tv_json.proofs.laws.no_refusal_of_a_file.Goals as goal

pub returns : goal.returns
returns c = IsJson-accepted
