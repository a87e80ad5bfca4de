use Rattle.std.proofs.Common.{sym, ◌∙◌, suc, max, arith}
use Rattle.std.specs.Prelude.{◌&&◌, nat_le}
use Rattle.tv_cells.specs.Extras.{extent}
use Rattle.tv_spec_slices.specs.Slices.{at}
use Rattle.tv_interlace.proofs.Tested.{all-fails}
use Rattle.tv_sums.specs.Plans.{is_fit}
use Rattle.tv_sums.proofs.slices.is_slice.Goals as goal

pub returns-then-not-is_slice_at : goal.returns-then-not-is_slice_at
returns-then-not-is_slice_at c =
    sym (all-fails (max c.args.plan.n (extent c.args.legs.now)) (λ d. nat_le (at c.args.s.now (suc d)) (at c.args.s.now d) && is_fit c.args.legs.now c.args.plan d (at c.args.s.now d)) c.loop-d.d (omega arith) (sym c.is_slice_at.ensures ∙ c.if-not-is_slice_at.true))
