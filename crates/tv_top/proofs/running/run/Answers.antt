use Rattle.tv_top.proofs.Completeness.{completes}
use Rattle.tv_top.proofs.running.run.Goals as goal

pub returns-clause-complete : goal.returns-clause-complete
returns-clause-complete g c = completes _ _ _ _ c.carry_out.ensures
