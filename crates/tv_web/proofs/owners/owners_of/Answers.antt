use Rattle.tv_web.proofs.Finding.{finds_next, finds_last}
use Rattle.tv_web.proofs.owners.owners_of.Goals as goal

pub loop-t-preserved : goal.loop-t-preserved
loop-t-preserved c = finds_next c.args.triangles.now c.args.a c.args.b c.loop-t.t _ _ _ c.loop-t-test.true c.found_with-found.ensures c.loop-t.invariant

pub returns : goal.returns
returns c = finds_last c.args.triangles.now c.args.a c.args.b c.loop-t.t _ _ c.loop-t-test.false c.loop-t.invariant
