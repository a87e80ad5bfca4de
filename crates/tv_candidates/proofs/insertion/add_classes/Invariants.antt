use Rattle.std.proofs.Common.{◌≡◌, ◌++◌}
use Rattle.std.specs.Vec.Iter.{into_iter_items}
use Rattle.tv_candidates.specs.Closing.{AddsClasses}
use Rattle.tv_candidates.proofs.insertion.add_classes.Given as goal

abbrev pub invariant-loop-class : goal.invariant-loop-class
invariant-loop-class l = record {
  can : (goal.iterator-loop-class).can_next l.class-iterator;
  finite : (goal.iterator-loop-class).is_finite l.class-iterator;
  whole : l.yielded ++ into_iter_items l.class-iterator ≡ l.fn.classes.items;
  added : AddsClasses l.yielded l.initial.family l.family;
}
