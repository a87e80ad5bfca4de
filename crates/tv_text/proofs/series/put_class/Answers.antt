use Rattle.std.proofs.Common.{w64}
use Rattle.std.proofs.lemmas.Int.{to_z-of_z}
use Rattle.tv_text.proofs.Printing.{line_text-class}
use Rattle.tv_text.proofs.series.put_class.Goals as goal

pub returns : goal.returns
returns c = line_text-class _ _ _ c.args.degree c.args.entries.now (simp (to_z-of_z w64 c.args.degree c.ranges.degree) at c.in_ok-write.ensures.bytes) c.in_ok-end_with_numbers.ensures
