use Rattle.std.proofs.Common.{length}
use Rattle.tv_glue.proofs.Adding.{IsUnderWay}
use Rattle.tv_glue.proofs.glued.full_over.Given as goal

abbrev pub invariant-loop-coming : goal.invariant-loop-coming
invariant-loop-coming g l = IsUnderWay g.C.Ring.ring l.web l.d l.n l.coming l.family

abbrev pub decreases-loop-coming : goal.decreases-loop-coming
decreases-loop-coming g l = length l.coming
