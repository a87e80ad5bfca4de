use Rattle.std.proofs.Common.{append_assoc}
use Rattle.tv_spec_text.specs.Lines.{line_text}
use Rattle.tv_reports.proofs.residues.put_title.Goals as goal

pub returns : goal.returns
unfolding line_text
returns c = simp append_assoc c.writeln.ensures.bytes
