use Rattle.tv_glue.proofs.Prepared.{KeptUpTo}
use Rattle.tv_glue.proofs.prepare.prepare.Given as goal

abbrev pub invariant-loop-i : goal.invariant-loop-i
invariant-loop-i g l = KeptUpTo g.C.Ring.ring l.asked.entries l.corners l.i
