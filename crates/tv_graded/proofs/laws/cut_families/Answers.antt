use Rattle.tv_spec_series.proofs.Cut.{classes-cut, coefficient_of-cut}
use Rattle.tv_graded.proofs.CutFamilies.{cut_is_family}
use Rattle.tv_graded.proofs.laws.cut_families.Goals as goal

pub returns : goal.returns
returns g c = record {
  family = λ f n family within h. cut_is_family g.met.C.Ring.laws n within f h family;
  classes = λ f n. classes-cut n f.rows;
  coefficients = coefficient_of-cut g.C.Ring.ring;
}
