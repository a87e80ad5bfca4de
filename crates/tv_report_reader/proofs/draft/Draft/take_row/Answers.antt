use Rattle.tv_report_reader.specs.Drafts.{seen_of}
use Rattle.tv_report_reader.proofs.BodySteps.{no-row-stops}
use Rattle.tv_report_reader.proofs.draft.Draft.take_row.Goals as goal

pub returns-in_default : goal.returns-in_default
returns-in_default c = no-row-stops _ (seen_of c.args.self.now) _ c.requires (rw c.in_default.is at c.in_ok-row.ensures)
