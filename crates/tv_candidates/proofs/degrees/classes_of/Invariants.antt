use Rattle.std.proofs.Common.{◌≡◌, ◌++◌, map}
use Rattle.tv_spec_series.specs.Families.{classes}
use Rattle.tv_candidates.proofs.degrees.classes_of.Given as goal

abbrev pub invariant-loop-entry : goal.invariant-loop-entry
invariant-loop-entry l = record {
  can : (goal.iterator-loop-entry).can_next l.entry-iterator;
  finite : (goal.iterator-loop-entry).is_finite l.entry-iterator;
  whole : l.found.items ++ map (λ entry. entry.0.class) l.entry-iterator ≡ classes l.family.rows;
}
