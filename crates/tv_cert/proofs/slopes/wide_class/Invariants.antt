use Rattle.tv_cert.proofs.Genera.{AreLowTo}
use Rattle.tv_cert.proofs.slopes.wide_class.Given as goal

abbrev pub invariant-loop-k : goal.invariant-loop-k
invariant-loop-k l = AreLowTo l.integers l.k
