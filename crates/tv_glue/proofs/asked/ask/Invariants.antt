use Rattle.tv_glue.specs.Asked.{AreAsked, AsksMore}
use Rattle.tv_glue.proofs.Prepared.{AsksUpTo}
use Rattle.tv_glue.proofs.asked.ask.Given as goal

abbrev pub invariant-loop-corner : goal.invariant-loop-corner
invariant-loop-corner l = AreAsked l.web l.d l.n l.asked.entries × AsksMore l.initial.asked.entries l.asked.entries × AsksUpTo l.corner-items l.boxes l.asked.entries l.corner-index
