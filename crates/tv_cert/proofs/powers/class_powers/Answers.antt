use Rattle.tv_cert.proofs.Gathered.{gathered-none, gathered-more}
use Rattle.tv_cert.proofs.powers.class_powers.Goals as goal

pub loop-value-init : goal.loop-value-init
loop-value-init c = gathered-none c.args.base c.args.values.now c.args.count _ c.in_ok-powers.ensures.value

pub loop-value-preserved : goal.loop-value-preserved
loop-value-preserved c =
    gathered-more c.args.base c.args.values.now c.args.count c.loop-value.value-index c.loop-value.powers.items
    c.loop-value.invariant c.value-item.result c.value-item.is c.loop-value-test.true _ c.in-Ok.ensures.value
