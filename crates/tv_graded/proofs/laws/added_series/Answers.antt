use Rattle.tv_spec_series.proofs.Rows.{find-put_other}
use Rattle.tv_spec_series.proofs.Sums.{find-added}
use Rattle.tv_graded.proofs.laws.added_series.Goals as goal

pub returns : goal.returns
returns g c = record {
  here = find-added g.met.C.Ring.laws;
  elsewhere = λ f u v s apart. find-put_other g.C.Ring.ring f.heights f.upto v s u f.rows apart;
}
