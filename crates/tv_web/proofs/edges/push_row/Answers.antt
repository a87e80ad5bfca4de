use Rattle.std.proofs.Common.{refl}
use Rattle.tv_web.specs.Edges.{compact_pair, outer_pair, compact_row, outer_row}
use Rattle.tv_web.proofs.Gathering.{gathers_next, gathers_last}
use Rattle.tv_web.proofs.edges.push_row.Goals as goal

pub loop-b-init : goal.loop-b-init
unfolding compact_row outer_row
loop-b-init c = record { compact = refl; outer = refl }

pub loop-b-preserved : goal.loop-b-preserved
loop-b-preserved c = record {
  compact = gathers_next (compact_pair c.args.triangles.now c.args.a) c.loop-b.b c.args.count _ _ _ c.loop-b-test.true c.in_ok-push_edge.ensures.compact c.loop-b.invariant.compact;
  outer = gathers_next (outer_pair c.args.triangles.now c.args.a) c.loop-b.b c.args.count _ _ _ c.loop-b-test.true c.in_ok-push_edge.ensures.outer c.loop-b.invariant.outer;
}

pub returns-clause-compact : goal.returns-clause-compact
returns-clause-compact c = gathers_last (compact_pair c.args.triangles.now c.args.a) c.loop-b.b c.args.count _ _ c.loop-b-test.false c.loop-b.invariant.compact

pub returns-clause-outer : goal.returns-clause-outer
returns-clause-outer c = gathers_last (outer_pair c.args.triangles.now c.args.a) c.loop-b.b c.args.count _ _ c.loop-b-test.false c.loop-b.invariant.outer
