use Rattle.std.proofs.Common.{w64, arith}
use Rattle.std.proofs.lemmas.Int.{ints, to_z-of_z}
use Rattle.tv_lattice.proofs.Sums.{small-fits, entry-fits}
use Rattle.tv_degrees.proofs.Signs.{even_from-first, even_from-next, even_from-end}
use Rattle.tv_degrees.proofs.sign.even_sum.Goals as goal

pub loop-k-init : goal.loop-k-init
loop-k-init c = record { sum = omega (arith, ints, even_from-first c.args.points.now c.args.entries.now); bound = omega arith }

pub loop-k-preserved : goal.loop-k-preserved
loop-k-preserved c =
    let entry = to_z-of_z w64 c.entry_at.result (entry-fits c.entry_at.result c.entry_at.ensures.limit) in
    let value = rw (entry, c.at-point.ensures, c.entry_at.ensures.value) at c.with_entry-total.ensures.value in
    let fits = small-fits c.with_entry-total.result (omega arith) in
    rw (to_z-of_z w64 c.with_entry-total.result fits) (record {
      sum = even_from-next c.args.points.now c.args.entries.now c.loop-k.k _ _ _ c.loop-k-test.true (omega arith) value c.loop-k.invariant.sum;
      bound = omega arith;
    })

pub returns : goal.returns
returns c = omega (arith, ints, c.loop-k.invariant.sum, even_from-end c.args.points.now c.args.entries.now c.loop-k.k c.loop-k-test.false)
