use Rattle.tv_report_reader.proofs.Putting.{none-yet, may-take, taken-more}
use Rattle.tv_report_reader.proofs.integers.put_sections.Goals as goal

pub loop-part-init : goal.loop-part-init
loop-part-init c = none-yet _ c.args.sections.now c.requires

pub put_part-requires : goal.put_part-requires
put_part-requires c = may-take c.args.integers.now _ c.args.sections.now c.loop-part.part-index _ c.part-item.result c.requires c.loop-part-test.true c.part-item.is c.loop-part.invariant

pub loop-part-preserved : goal.loop-part-preserved
loop-part-preserved c = taken-more c.args.integers.now c.loop-part.integers _ c.args.sections.now c.loop-part.part-index _ c.part-item.result c.loop-part-test.true c.part-item.is c.loop-part.invariant c.in_ok-put_part.ensures
