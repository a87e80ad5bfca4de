use Rattle.std.specs.List.{AllByRecursion}
use Rattle.std.proofs.Common.{map}
use Rattle.tv_graded.specs.Listing.{with_degree}
use Rattle.tv_gv.proofs.TestFamilies.{IsSmallEntry}
use Rattle.tv_gv.proofs.tests.are_small.Given as goal

abbrev pub invariant-loop-entry : goal.invariant-loop-entry
invariant-loop-entry l = record {
  can : (goal.iterator-loop-entry).can_next l.entry-iterator;
  finite : (goal.iterator-loop-entry).is_finite l.entry-iterator;
  whole : AllByRecursion IsSmallEntry l.entry-iterator →
      AllByRecursion IsSmallEntry (map (with_degree l.family.heights) l.family.rows);
}
