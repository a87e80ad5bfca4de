use Rattle.std.proofs.Common.{◌≡◌, length}
use Rattle.tv_class_assignments.specs.Tables.{AreLast}
use Rattle.tv_class_assignments.proofs.tables.last_edges.Given as goal

abbrev pub invariant-loop-p : goal.invariant-loop-p
invariant-loop-p l = record {
  last : AreLast l.web l.last.items;
  number : length l.last.items ≡ l.p;
}
