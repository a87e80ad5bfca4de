use Rattle.tv_laws_integers.proofs.Proved.{slope_of_series}
use Rattle.tv_laws_integers.proofs.laws.slope_of_series.Goals as goal

pub returns : goal.returns
returns c = slope_of_series
