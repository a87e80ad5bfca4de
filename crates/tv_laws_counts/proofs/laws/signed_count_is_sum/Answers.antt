use Rattle.tv_laws_counts.proofs.SignedCounts.{signed_count_is}
use Rattle.tv_laws_counts.proofs.laws.signed_count_is_sum.Goals as goal

pub returns : goal.returns
returns c = signed_count_is
