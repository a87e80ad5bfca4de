use Rattle.tv_laws_slices.proofs.Climb.{entries-are-bounded}
use Rattle.tv_laws_slices.proofs.laws.entries_are_bounded.Goals as goal

pub returns : goal.returns
returns c = entries-are-bounded
