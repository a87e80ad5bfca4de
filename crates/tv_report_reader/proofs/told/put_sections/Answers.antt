use Rattle.tv_report_reader.proofs.Families.{family-more, series-at}
use Rattle.tv_report_reader.proofs.told.put_sections.Goals as goal

pub put_part-requires : goal.put_part-requires
put_part-requires c = series-at c.args.family.now _ c.args.sections.now c.loop-part.part-index _ c.part-item.result c.requires c.loop-part-test.true c.part-item.is c.loop-part.invariant

pub loop-part-preserved : goal.loop-part-preserved
loop-part-preserved c = family-more c.args.family.now c.loop-part.family _ c.args.sections.now c.loop-part.part-index _ c.part-item.result c.requires c.loop-part-test.true c.part-item.is c.loop-part.invariant c.in_ok-put_part.ensures
