use Rattle.std.proofs.Common.{w64, arith}
use Rattle.std.proofs.lemmas.Int.{ints, to_z-of_z}
use Rattle.tv_lattice.proofs.Sums.{degree_from-first, degree_from-next, degree_from-end, small-fits, entry-fits, height-fits}
use Rattle.tv_lattice.proofs.class.degree_of.Goals as goal

pub loop-k-init : goal.loop-k-init
loop-k-init c = record { sum = omega (arith, ints, degree_from-first c.args.heights.now c.args.entries.now); bound = omega arith }

pub loop-k-preserved : goal.loop-k-preserved
loop-k-preserved c =
    let height = to_z-of_z w64 c.height_at.result (height-fits c.height_at.result c.height_at.ensures.limit) in
    let entry = to_z-of_z w64 c.entry_at.result (entry-fits c.entry_at.result c.entry_at.ensures.limit) in
    let value = rw (height, entry, c.height_at.ensures.value, c.entry_at.ensures.value) at c.with_term-total.ensures.value in
    let fits = small-fits c.with_term-total.result (omega arith) in
    rw (to_z-of_z w64 c.with_term-total.result fits) (record {
      sum = degree_from-next c.args.heights.now c.args.entries.now c.loop-k.k _ _ _ c.loop-k-test.true (omega arith) value c.loop-k.invariant.sum;
      bound = omega arith;
    })

pub returns : goal.returns
returns c = omega (arith, ints, c.loop-k.invariant.sum, degree_from-end c.args.heights.now c.args.entries.now c.loop-k.k c.loop-k-test.false)
