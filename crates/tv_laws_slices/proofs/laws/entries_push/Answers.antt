use Rattle.tv_laws_slices.proofs.Pushed.{entries-push}
use Rattle.tv_laws_slices.proofs.laws.entries_push.Goals as goal

pub returns : goal.returns
returns c = entries-push
