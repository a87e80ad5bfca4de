use Rattle.tv_laws_tiled_edges.proofs.Rules.{has_edge_rule}
use Rattle.tv_laws_tiled_edges.proofs.laws.tiling_has_edge_rule.Goals as goal

pub returns : goal.returns
returns c = has_edge_rule
