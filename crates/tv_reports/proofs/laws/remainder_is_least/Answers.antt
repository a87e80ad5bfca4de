use Rattle.tv_reports.proofs.LeastRemainders.{least_remainder}
use Rattle.tv_reports.proofs.laws.remainder_is_least.Goals as goal

pub returns : goal.returns
returns c = record { law = least_remainder }
