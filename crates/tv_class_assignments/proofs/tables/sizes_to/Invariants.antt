use Rattle.std.proofs.Common.{◌≡◌, length}
use Rattle.tv_class_assignments.specs.Tables.{AreSizes}
use Rattle.tv_class_assignments.proofs.tables.sizes_to.Given as goal

abbrev pub invariant-loop-size : goal.invariant-loop-size
invariant-loop-size l = record {
  sizes : AreSizes l.sizes.items;
  number : length l.sizes.items ≡ l.size;
}
