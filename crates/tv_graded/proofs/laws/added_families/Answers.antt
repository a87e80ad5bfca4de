use Rattle.tv_spec_series.proofs.Members.{put_members, members_put}
use Rattle.tv_spec_series.proofs.Sums.{added_is_family}
use Rattle.tv_graded.proofs.laws.added_families.Goals as goal

pub returns : goal.returns
returns g c = record {
  family = added_is_family g.met.C.Ring.laws;
  classes = λ f u v s. (put_members g.C.Ring.ring f.heights f.upto v s u f.rows, members_put g.C.Ring.ring f.heights f.upto v s u f.rows);
}
