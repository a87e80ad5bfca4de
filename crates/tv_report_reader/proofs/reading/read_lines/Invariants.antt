use Rattle.std.proofs.Common.{map, take}
use Rattle.tv_spec_text.specs.Lines.{words}
use Rattle.tv_text.specs.Rows.{texts}
use Rattle.tv_report_reader.specs.Drafts.{seen_of}
use Rattle.tv_report_reader.specs.Stages.{IsAt}
use Rattle.tv_report_reader.proofs.reading.read_lines.Given as goal

abbrev pub invariant-loop-k : goal.invariant-loop-k
invariant-loop-k l = IsAt l.draft.stage (seen_of l.draft) (take l.k (map words (texts l.lines)))
