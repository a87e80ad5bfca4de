use Rattle.std.proofs.Common.{◌≤◌, unsigned_abs, take}
use Rattle.std.specs.List.{AllByRecursion}
use Rattle.tv_candidates.proofs.tests.is_small.Given as goal

abbrev pub invariant-loop-entry : goal.invariant-loop-entry
invariant-loop-entry l = AllByRecursion (λ x. unsigned_abs x ≤ 9) (take l.entry-index l.entries)
