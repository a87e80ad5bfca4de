use Rattle.tv_cert.proofs.Genera.{IsSlopeTo}
use Rattle.tv_cert.proofs.slopes.slope.Given as goal

abbrev pub invariant-loop-k : goal.invariant-loop-k
invariant-loop-k l = IsSlopeTo l.integers l.k l.slope
