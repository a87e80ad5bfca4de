use Rattle.tv_laws_edges.proofs.Classes.{flat_degree}
use Rattle.tv_laws_edges.proofs.laws.flat_heights_have_no_degree.Goals as goal

pub returns : goal.returns
returns c = flat_degree
