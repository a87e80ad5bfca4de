use Rattle.std.specs.List.{AllByRecursion}
use Rattle.tv_candidates.specs.Degrees.{listed}
use Rattle.tv_candidates.proofs.TestSizes.{IsSmallEntry}
use Rattle.tv_candidates.proofs.tests.are_small.Given as goal

abbrev pub invariant-loop-entry : goal.invariant-loop-entry
invariant-loop-entry l = record {
  can : (goal.iterator-loop-entry).can_next l.entry-iterator;
  finite : (goal.iterator-loop-entry).is_finite l.entry-iterator;
  whole : AllByRecursion IsSmallEntry l.entry-iterator → AllByRecursion IsSmallEntry (listed l.family);
}
