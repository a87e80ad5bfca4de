use Rattle.tv_cert.proofs.Unequal.{IsComparedTo}
use Rattle.tv_cert.proofs.differences.first_difference.Given as goal

abbrev pub invariant-loop-exponent : goal.invariant-loop-exponent
invariant-loop-exponent l = IsComparedTo l.family l.class l.base l.row l.exponent
