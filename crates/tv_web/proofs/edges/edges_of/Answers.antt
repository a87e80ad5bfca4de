use Rattle.tv_web.specs.Edges.{compact_row, outer_row}
use Rattle.tv_web.proofs.Gathering.{gathers_next, gathers_last}
use Rattle.tv_web.proofs.edges.edges_of.Goals as goal

pub loop-a-preserved : goal.loop-a-preserved
loop-a-preserved c = record {
  compact = gathers_next (compact_row c.args.triangles.now c.args.count) c.loop-a.a c.args.count _ _ _ c.loop-a-test.true c.in_ok-push_row.ensures.compact c.loop-a.invariant.compact;
  outer = gathers_next (outer_row c.args.triangles.now c.args.count) c.loop-a.a c.args.count _ _ _ c.loop-a-test.true c.in_ok-push_row.ensures.outer c.loop-a.invariant.outer;
}

pub returns-clause-compact : goal.returns-clause-compact
returns-clause-compact c = gathers_last (compact_row c.args.triangles.now c.args.count) c.loop-a.a c.args.count _ _ c.loop-a-test.false c.loop-a.invariant.compact

pub returns-clause-outer : goal.returns-clause-outer
returns-clause-outer c = gathers_last (outer_row c.args.triangles.now c.args.count) c.loop-a.a c.args.count _ _ c.loop-a-test.false c.loop-a.invariant.outer
