use Rattle.std.proofs.Common.{◌+◌, ap, arith, ◌∙◌}
use Rattle.tv_spec_slices.specs.Slices.{at}
use Rattle.tv_interlace.proofs.Sums.{sum-next}
use Rattle.tv_sums.specs.Plans.{left_at}
use Rattle.tv_sums.proofs.weights.left.Goals as goal

pub loop-d-preserved : goal.loop-d-preserved
loop-d-preserved c =
    record {
      sum = sum-next (left_at c.args.legs.now c.args.plan c.args.i (at c.args.s.now)) c.loop-d.d _ _ c.loop-d.total _ c.loop-d-test.true (ap (λ n. c.loop-d.total + n) (c.from-total.ensures ∙ c.left_at.ensures)) c.loop-d.invariant.sum;
      bound = omega (arith, c.loop-d.invariant.bound);
    }
