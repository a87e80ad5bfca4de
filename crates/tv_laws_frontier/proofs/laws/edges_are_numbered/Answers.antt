use Rattle.tv_laws_frontier.proofs.Numbered.{picked_by_number}
use Rattle.tv_laws_frontier.proofs.laws.edges_are_numbered.Goals as goal

pub returns : goal.returns
returns c = picked_by_number
