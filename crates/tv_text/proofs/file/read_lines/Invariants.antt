use Rattle.std.proofs.Common.{map, take}
use Rattle.tv_spec_text.specs.Lines.{words}
use Rattle.tv_text.specs.Drafts.{web_of}
use Rattle.tv_text.specs.Rows.{texts}
use Rattle.tv_text.specs.Stages.{IsAt}
use Rattle.tv_text.proofs.file.read_lines.Given as goal

abbrev pub invariant-loop-k : goal.invariant-loop-k
invariant-loop-k l = IsAt l.draft.stage (web_of l.draft) (take l.k (map words (texts l.lines)))
