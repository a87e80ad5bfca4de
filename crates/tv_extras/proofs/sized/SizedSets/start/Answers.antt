use Rattle.tv_extras.proofs.WorthSets.{worth-rises}
use Rattle.tv_extras.proofs.sized.SizedSets.start.Goals as goal

pub start-requires-clause-order : goal.start-requires-clause-order
start-requires-clause-order c = rw c.in_ok-cells.ensures (worth-rises c.args.legs c.args.most)
