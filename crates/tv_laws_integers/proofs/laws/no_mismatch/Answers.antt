use Rattle.tv_laws_integers.proofs.Mismatches.{none_where_agreed}
use Rattle.tv_laws_integers.proofs.laws.no_mismatch.Goals as goal

pub returns : goal.returns
returns c = none_where_agreed
