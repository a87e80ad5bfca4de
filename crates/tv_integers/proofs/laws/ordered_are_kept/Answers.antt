use Rattle.tv_integers.proofs.Degrees.{kept_from, ordered_from}
use Rattle.tv_integers.proofs.laws.ordered_are_kept.Goals as goal

pub returns : goal.returns
returns c = record { law = λ D hs is. (kept_from D hs is, ordered_from D hs is) }
