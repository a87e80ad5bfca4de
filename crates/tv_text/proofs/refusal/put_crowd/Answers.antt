use Rattle.tv_text.proofs.Printing.{line_text-crowd}
use Rattle.tv_text.proofs.refusal.put_crowd.Goals as goal

pub returns : goal.returns
returns c = line_text-crowd _ _ _ c.args.entries.now c.in_ok-write.ensures.bytes c.in_ok-end_with_numbers.ensures
