use Rattle.tv_text.proofs.Exact.{IsText-accepted}
use Rattle.tv_text.proofs.laws.no_refusal_of_a_file.Goals as goal

pub returns : goal.returns
returns c = IsText-accepted
