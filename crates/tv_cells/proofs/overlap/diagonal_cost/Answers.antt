use Rattle.std.proofs.Common.{arith, ◌∙◌}
use Rattle.tv_cells.proofs.Overlaps.{columns-sum, columns-end, diagonal-is}
use Rattle.tv_cells.proofs.overlap.diagonal_cost.Goals as goal

pub loop-d-preserved : goal.loop-d-preserved
loop-d-preserved c = record {
  sum = columns-sum c.args.legs.now c.saturating_sub-x.result c.saturating_sub-y.result c.args.side c.loop-d.d _ c.loop-d.total c.column_cost-total.result _
      c.known.ensures.diagrams c.requires.whole c.loop-d-test.true c.column_cost-total.ensures.value c.loop-d.invariant.sum;
  bound = omega (arith, c.column_cost-total.ensures.bound, c.loop-d.invariant.bound);
}

pub returns-clause-value : goal.returns-clause-value
returns-clause-value c =
    columns-end c.args.legs.now c.saturating_sub-x.result c.saturating_sub-y.result c.args.side c.loop-d.d _ c.loop-d.total _ (omega arith) c.loop-d.invariant.sum
    ∙ diagonal-is c.args.legs.now c.args.side c.args.k c.saturating_sub-x.result c.saturating_sub-y.result c.saturating_sub-x.ensures c.saturating_sub-y.ensures
