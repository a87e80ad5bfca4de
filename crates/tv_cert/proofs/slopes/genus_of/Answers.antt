use Rattle.tv_cert.proofs.Genera.{genus-next}
use Rattle.tv_cert.proofs.slopes.genus_of.Goals as goal

pub loop-value-preserved : goal.loop-value-preserved
loop-value-preserved c =
    genus-next c.args.values.now c.loop-value.value-index c.value-item.result c.loop-value.genus c.max-genus.result c.value-item.is
    c.loop-value-test.true c.loop-value.invariant c.max-genus.ensures
