use Rattle.std.proofs.Common.{◌≡◌, ◌++◌, drop}
use Rattle.tv_class_assignments.specs.Remaining.{less}
use Rattle.tv_class_assignments.proofs.remaining.less.Given as goal

abbrev pub invariant-loop-k : goal.invariant-loop-k
invariant-loop-k l = l.rest.items ++ less l.size (drop l.k l.class) (drop l.k l.entries) ≡ less l.size l.class l.entries
