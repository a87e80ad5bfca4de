use Rattle.tv_laws_tiled_edges.proofs.Named.{names_edges}
use Rattle.tv_laws_tiled_edges.proofs.laws.tiling_names_edges.Goals as goal

pub returns : goal.returns
returns c = names_edges
