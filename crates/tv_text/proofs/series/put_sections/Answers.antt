use Rattle.tv_text.proofs.Printing.{sections-whole}
use Rattle.tv_text.proofs.series.put_sections.Goals as goal

pub returns : goal.returns
returns c = sections-whole _ _ c.args.sections.now c.loop-section.section-index c.loop-section-test.false c.loop-section.invariant
