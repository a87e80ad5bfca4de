use Rattle.tv_report_reader.proofs.BodySteps.{end-leads}
use Rattle.tv_report_reader.proofs.draft.Draft.take_end.Goals as goal

pub returns : goal.returns
returns c = end-leads _ _ c.requires.stage
