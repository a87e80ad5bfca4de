use Rattle.tv_report_reader.proofs.WideNumbers.{no_number_below_zero}
use Rattle.tv_report_reader.proofs.wide.below_zero.Goals as goal

pub returns-in-None : goal.returns-in-None
returns-in-None c = no_number_below_zero c.args.digits.now c.in-None.ensures
