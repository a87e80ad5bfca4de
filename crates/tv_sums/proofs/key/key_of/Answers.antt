use Rattle.std.proofs.Common.{sym, ap, arith, ◌∙◌, length}
use Rattle.tv_laws_series.proofs.Listed.{listed-none, listed_push, length-listed}
use Rattle.tv_laws_sums.specs.Mixed.{value}
use Rattle.tv_sums.proofs.key.key_of.Goals as goal

pub loop-d-init : goal.loop-d-init
loop-d-init c = c.new-heights.ensures.items ∙ sym (listed-none _)

pub loop-d-preserved : goal.loop-d-preserved
loop-d-preserved c = listed_push (value c.args.top c.args.a.now) c.loop-d.d _ _ c.value.result c.loop-d.invariant c.in_ok-push.ensures.items c.value.ensures

pub new-requires : goal.new-requires
new-requires c = omega (arith, ap length c.loop-d.invariant ∙ length-listed (value c.args.top c.args.a.now) c.loop-d.d)
