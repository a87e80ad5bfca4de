use Rattle.std.proofs.Common.{length}
use Rattle.tv_glue.specs.Asked.{AreAsked}
use Rattle.tv_glue.proofs.Prepared.{AsksSoFar}
use Rattle.tv_glue.proofs.asked.asked_by.Given as goal

abbrev pub invariant-loop-coming : goal.invariant-loop-coming
invariant-loop-coming l = AreAsked l.web l.d l.n l.asked.entries × AsksSoFar l.web l.d l.n l.coming l.asked.entries

abbrev pub decreases-loop-coming : goal.decreases-loop-coming
decreases-loop-coming l = length l.coming
