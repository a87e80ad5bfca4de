use Rattle.std.proofs.Common.{◌≡◌, ℕ, ◌<◌, ◌≤ℤ◌, Some, slice_get}
use Rattle.tv_laws_series.specs.Quotients.{quotient_upto}
use Rattle.tv_spec_series.specs.Families.{Row}
use Rattle.tv_graded.proofs.tests.is_known_through.Given as goal

abbrev pub invariant-loop-k : goal.invariant-loop-k
invariant-loop-k l = (i : ℕ) (x : Row _) → i < l.k → slice_get l.family.rows i ≡ Some x → l.family.upto ≤ℤ quotient_upto x.series l.zero
