use Rattle.std.proofs.Common.{◌+◌, ap, arith, ◌∙◌}
use Rattle.tv_interlace.specs.Places.{beside}
use Rattle.tv_interlace.proofs.Sums.{sum-next}
use Rattle.tv_sums.proofs.weights.upright.Goals as goal

pub loop-y-preserved : goal.loop-y-preserved
loop-y-preserved c =
    record {
      sum = sum-next (beside c.args.legs.now c.args.x c.args.height) c.loop-y.y _ _ c.loop-y.total _ c.loop-y-test.true (ap (λ n. c.loop-y.total + n) (c.from-total.ensures ∙ c.beside.ensures)) c.loop-y.invariant.sum;
      bound = omega (arith, c.loop-y.invariant.bound);
    }
