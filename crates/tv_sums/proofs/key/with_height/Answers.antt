use Rattle.std.proofs.Common.{sym, ap, arith, ◌∙◌, length}
use Rattle.tv_laws_series.proofs.Listed.{listed-none, listed_push, length-listed}
use Rattle.tv_spec_slices.specs.Slices.{at}
use Rattle.tv_laws_sums.specs.Mixed.{put}
use Rattle.tv_sums.proofs.key.with_height.Goals as goal

pub loop-d-init : goal.loop-d-init
loop-d-init c = c.new-heights.ensures.items ∙ sym (listed-none _)

pub loop-d-preserved : goal.loop-d-preserved
loop-d-preserved c = listed_push (put (at c.args.s.now) c.args.p c.args.y) c.loop-d.d _ _ c.height_at.result c.loop-d.invariant c.in_ok-push.ensures.items c.height_at.ensures

pub new-requires : goal.new-requires
new-requires c = omega (arith, ap length c.loop-d.invariant ∙ length-listed (put (at c.args.s.now) c.args.p c.args.y) c.loop-d.d)
