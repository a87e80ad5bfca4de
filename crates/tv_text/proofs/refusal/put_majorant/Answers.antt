use Rattle.std.proofs.Common.{w64}
use Rattle.std.proofs.lemmas.Int.{to_z-of_z}
use Rattle.tv_text.proofs.Printing.{line_text-majorant}
use Rattle.tv_text.proofs.refusal.put_majorant.Goals as goal

pub returns : goal.returns
returns c = line_text-majorant _ _ _ c.args.exponent c.args.entries.now (simp (to_z-of_z w64 c.args.exponent c.ranges.exponent) at c.in_ok-write.ensures.bytes) c.in_ok-end_with_numbers.ensures
