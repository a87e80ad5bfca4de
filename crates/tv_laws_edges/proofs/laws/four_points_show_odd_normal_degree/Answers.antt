use Rattle.tv_laws_edges.proofs.Shown.{four_parities}
use Rattle.tv_laws_edges.proofs.laws.four_points_show_odd_normal_degree.Goals as goal

pub returns : goal.returns
returns c = four_parities
