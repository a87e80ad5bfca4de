use Rattle.tv_laws_edges.proofs.Classes.{class_parity}
use Rattle.tv_laws_edges.proofs.laws.class_has_parity_of_normal_degree.Goals as goal

pub returns : goal.returns
returns c = class_parity
