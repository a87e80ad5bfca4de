use Rattle.std.proofs.Common.{◌↔◌, drop}
use Rattle.std.specs.List.{AllByRecursion}
use Rattle.tv_lattice.specs.Limits.{IsHeight}
use Rattle.tv_report_reader.proofs.checks.are_small.Given as goal

abbrev pub invariant-loop-height : goal.invariant-loop-height
invariant-loop-height l = AllByRecursion IsHeight (drop l.height-index l.heights) ↔ AllByRecursion IsHeight l.heights
