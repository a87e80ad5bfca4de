use Rattle.std.proofs.Common.{take}
use Rattle.std.specs.List.{AllByRecursion}
use Rattle.tv_lattice.specs.Limits.{IsHeight}
use Rattle.tv_lattice.proofs.excess.first_height.Given as goal

abbrev pub invariant-loop-k : goal.invariant-loop-k
invariant-loop-k l = AllByRecursion IsHeight (take l.k l.heights)
