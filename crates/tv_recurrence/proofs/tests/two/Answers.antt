use Rattle.tv_recurrence.proofs.ExactQuotients.{by-one}
use Rattle.tv_recurrence.proofs.tests.two.Goals as goal

pub coefficients-requires-clause-exact : goal.coefficients-requires-clause-exact
coefficients-requires-clause-exact c = λ t h. by-one _
