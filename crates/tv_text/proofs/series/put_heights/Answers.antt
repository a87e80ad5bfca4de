use Rattle.std.specs.Prelude.{codes}
use Rattle.tv_text.proofs.Printing.{line_text-numbers}
use Rattle.tv_text.proofs.series.put_heights.Goals as goal

pub returns : goal.returns
returns c = line_text-numbers _ _ _ (codes "heights") c.args.heights.now c.in_ok-write.ensures.bytes c.in_ok-end_with_numbers.ensures
