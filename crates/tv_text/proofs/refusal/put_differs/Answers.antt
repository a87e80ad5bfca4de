use Rattle.std.proofs.Common.{w64}
use Rattle.std.specs.Int.{w128}
use Rattle.std.proofs.lemmas.Int.{to_z-of_z}
use Rattle.tv_text.proofs.Printing.{line_text-differs}
use Rattle.tv_text.proofs.refusal.put_differs.Goals as goal

pub returns : goal.returns
returns c = line_text-differs _ _ _ c.args.exponent c.args.series c.args.product c.args.entries.now (simp (to_z-of_z w64 c.args.exponent c.ranges.exponent, to_z-of_z w128 c.args.series c.ranges.series, to_z-of_z w128 c.args.product c.ranges.product) at c.in_ok-write.ensures.bytes) c.in_ok-end_with_numbers.ensures
