use Rattle.std.proofs.Common.{◌≡◌, ◌++◌}
use Rattle.tv_candidates.specs.Degrees.{of_degree, listed}
use Rattle.tv_candidates.proofs.degrees.classes_of_degree.Given as goal

abbrev pub invariant-loop-entry : goal.invariant-loop-entry
invariant-loop-entry l = record {
  can : (goal.iterator-loop-entry).can_next l.entry-iterator;
  finite : (goal.iterator-loop-entry).is_finite l.entry-iterator;
  whole : l.found.items ++ of_degree l.degree l.entry-iterator ≡ of_degree l.degree (listed l.family);
}
