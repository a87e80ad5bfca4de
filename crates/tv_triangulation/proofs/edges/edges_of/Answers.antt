use Rattle.std.proofs.Common.{sym}
use Rattle.tv_triangulation.proofs.SegmentTests.{edges-more}
use Rattle.tv_triangulation.proofs.edges.edges_of.Goals as goal

pub loop-t-preserved : goal.loop-t-preserved
loop-t-preserved c =
    rw (c.in_ok-extend_from_slice.ensures.items, c.sides_of.ensures, c.loop-t.invariant) (sym (edges-more c.args.triangles.now c.loop-t.t-index (record { a = 0; b = 0; c = 0 }) c.loop-t-test.true))
