use Rattle.tv_recurrence.proofs.ExactQuotients.{by-one}
use Rattle.tv_recurrence.proofs.tests.alone.Goals as goal

pub coefficient-requires-clause-exact : goal.coefficient-requires-clause-exact
coefficient-requires-clause-exact c = by-one _
