use Rattle.std.proofs.Common.{le_trans}
use Rattle.tv_assignment.proofs.Listed.{listed-one_each, listed-few}
use Rattle.tv_frontier.proofs.lowest.low_at.Goals as goal

pub low_of-requires-clause-one_each : goal.low_of-requires-clause-one_each
low_of-requires-clause-one_each c = listed-one_each c.args.web.now c.args.d c.args.assignment.now c.known.ensures.graded c.requires.listed

pub low_of-requires-clause-few : goal.low_of-requires-clause-few
low_of-requires-clause-few c = le_trans (listed-few c.args.web.now c.args.d c.args.assignment.now c.known.ensures.graded c.requires.listed) c.requires.degree
