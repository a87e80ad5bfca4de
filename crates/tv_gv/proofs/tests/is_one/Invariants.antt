use Rattle.tv_gv.proofs.TestFamilies.{IsNoneTo}
use Rattle.tv_gv.proofs.tests.is_one.Given as goal

abbrev pub invariant-loop-weight : goal.invariant-loop-weight
invariant-loop-weight l = IsNoneTo l.weight l.series
