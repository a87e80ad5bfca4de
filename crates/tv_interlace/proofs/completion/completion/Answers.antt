use Rattle.std.proofs.Common.{◌+◌, ap, arith, ◌∙◌}
use Rattle.std.proofs.lemmas.Int.{to_z-of_z}
use Rattle.tv_spec_slices.specs.Slices.{above}
use Rattle.tv_interlace.proofs.Sums.{sum-next}
use Rattle.tv_interlace.proofs.completion.completion.Goals as goal

pub loop-d-preserved : goal.loop-d-preserved
loop-d-preserved c =
    let fits = c.ranges.t in
    record {
      sum = simp to_z-of_z (sum-next (above c.args.legs.now c.args.t c.args.a.now) c.loop-d.d _ _ c.loop-d.total _ c.loop-d-test.true (ap (λ n. c.loop-d.total + n) (c.from-total.ensures ∙ simp to_z-of_z at c.above.ensures)) (simp to_z-of_z at c.loop-d.invariant.sum));
      bound = omega (arith, c.loop-d.invariant.bound);
    }
