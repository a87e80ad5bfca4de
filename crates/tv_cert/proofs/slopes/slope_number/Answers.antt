use Rattle.tv_cert.proofs.Genera.{number-positive}
use Rattle.tv_cert.proofs.slopes.slope_number.Goals as goal

pub degree_in-requires : goal.degree_in-requires
degree_in-requires c = record {
  positive = rw c.class_number.ensures.class (number-positive c.args.integers.now c.args.k c.known.ensures.kept c.requires.within);
}
