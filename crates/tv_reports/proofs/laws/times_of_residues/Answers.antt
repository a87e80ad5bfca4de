use Rattle.tv_reports.proofs.LeastRemainders.{whole_times-residues}
use Rattle.tv_reports.proofs.laws.times_of_residues.Goals as goal

pub returns : goal.returns
returns c = record { law = whole_times-residues }
