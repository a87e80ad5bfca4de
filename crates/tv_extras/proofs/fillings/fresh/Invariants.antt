use Rattle.std.proofs.Common.{◌≡◌}
use Rattle.std.specs.List.{AllByRecursion}
use Rattle.tv_extras.specs.Nodes.{legs_of}
use Rattle.tv_extras.specs.Standing.{IsFresh}
use Rattle.tv_extras.proofs.fillings.fresh.Given as goal

abbrev pub invariant-loop-corner : goal.invariant-loop-corner
invariant-loop-corner l = record {
  fresh : AllByRecursion (IsFresh l.most) l.nodes.items;
  legs : legs_of l.nodes.items ≡ l.yielded;
}
