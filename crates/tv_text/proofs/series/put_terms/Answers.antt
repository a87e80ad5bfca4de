use Rattle.tv_text.proofs.Printing.{terms-whole}
use Rattle.tv_text.proofs.series.put_terms.Goals as goal

pub returns : goal.returns
returns c = terms-whole _ _ c.args.terms.now c.loop-term.term-index c.loop-term-test.false c.loop-term.invariant
