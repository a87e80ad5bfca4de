use Rattle.std.proofs.Common.{w64, append_assoc}
use Rattle.std.proofs.lemmas.Int.{to_z-of_z}
use Rattle.tv_spec_text.specs.Lines.{line_text}
use Rattle.tv_reports.proofs.check.put_edge_words.Goals as goal

pub returns : goal.returns
unfolding line_text
returns c = simp append_assoc (simp (append_assoc, to_z-of_z w64 c.args.first c.ranges.first, to_z-of_z w64 c.args.second c.ranges.second, to_z-of_z w64 c.args.degree c.ranges.degree) at c.in_ok-writeln.ensures.bytes)
