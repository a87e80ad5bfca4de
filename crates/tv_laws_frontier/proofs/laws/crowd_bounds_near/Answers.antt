use Rattle.tv_laws_frontier.proofs.Joins.{crowd_of_near}
use Rattle.tv_laws_frontier.proofs.laws.crowd_bounds_near.Goals as goal

pub returns : goal.returns
returns c = crowd_of_near
