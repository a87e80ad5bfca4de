use Rattle.tv_laws_edges.proofs.Rules.{edge_rule}
use Rattle.tv_laws_edges.proofs.laws.edge_has_one_rule.Goals as goal

pub returns : goal.returns
returns c = edge_rule
