use Rattle.std.proofs.Common.{map, w64, arith}
use Rattle.std.proofs.lemmas.Int.{ints, to_z-of_z}
use Rattle.tv_spec_plane.specs.Web.{below}
use Rattle.tv_lattice.proofs.Sums.{degree_from-first, degree_from-end, small-fits, entry-fits, height-fits}
use Rattle.tv_degrees.specs.Edges.{entry_by}
use Rattle.tv_degrees.proofs.Entries.{degree_next}
use Rattle.tv_degrees.proofs.degrees.sum_of.Goals as goal

pub loop-k-init : goal.loop-k-init
loop-k-init c = rw (to_z-of_z w64 c.args.a c.ranges.a, to_z-of_z w64 c.args.b c.ranges.b) (record { sum = omega (arith, ints, degree_from-first c.args.heights.now (map (entry_by c.args.edge c.args.a c.args.b) (below c.args.count))); bound = omega arith })

pub loop-k-preserved : goal.loop-k-preserved
loop-k-preserved c =
    let height = to_z-of_z w64 c.height_at-height.result (height-fits c.height_at-height.result c.height_at-height.ensures.limit) in
    let entry = to_z-of_z w64 c.entry.result (entry-fits c.entry.result c.entry.ensures.limit) in
    let value = rw (height, entry) at c.with_term-total.ensures.value in
    let fits = small-fits c.with_term-total.result (omega arith) in
    rw (to_z-of_z w64 c.with_term-total.result fits) (record {
      sum = degree_next c.args.heights.now c.args.edge _ _ c.args.count c.loop-k.k _ _ _ _ _ c.loop-k-test.true c.requires.one_each c.height_at-height.ensures.value c.entry.ensures.value value c.loop-k.invariant.sum;
      bound = omega arith;
    })

pub returns : goal.returns
returns c =
    let sum = rw (to_z-of_z w64 c.args.a c.ranges.a, to_z-of_z w64 c.args.b c.ranges.b) at c.loop-k.invariant.sum in
    omega (arith, ints, sum, degree_from-end c.args.heights.now (map (entry_by c.args.edge c.args.a c.args.b) (below c.args.count)) c.loop-k.k (omega arith))
