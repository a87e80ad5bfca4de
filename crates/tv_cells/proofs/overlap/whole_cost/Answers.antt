use Rattle.std.proofs.Common.{arith, sym, ◌∙◌}
use Rattle.tv_cells.proofs.Overlaps.{diagonals-sum, diagonals-end, no-overlap}
use Rattle.tv_cells.proofs.overlap.whole_cost.Goals as goal

pub returns-then-side-eq0-clause-value : goal.returns-then-side-eq0-clause-value
returns-then-side-eq0-clause-value c = sym (no-overlap c.args.legs.now (sym c.extent-side.ensures.value ∙ c.if-side-eq0.true))

pub loop-k-preserved : goal.loop-k-preserved
loop-k-preserved c = record {
  sum = diagonals-sum c.args.legs.now c.extent-side.result c.loop-k.k _ c.loop-k.total c.diagonal_cost-total.result _ c.loop-k-test.true c.diagonal_cost-total.ensures.value c.loop-k.invariant.sum;
  bound = omega (arith, c.diagonal_cost-total.ensures.bound, c.loop-k.invariant.bound);
}

pub returns-clause-value : goal.returns-clause-value
returns-clause-value c = diagonals-end c.args.legs.now c.extent-side.result c.loop-k.k c.loop-k.total (omega arith) c.extent-side.ensures.value (omega arith) c.loop-k.invariant.sum
