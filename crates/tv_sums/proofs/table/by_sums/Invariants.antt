use Rattle.std.specs.Map.{keys_of}
use Rattle.tv_sums.specs.Parts.{all_done, IsPart}
use Rattle.tv_sums.proofs.table.by_sums.Given as goal

abbrev pub invariant-loop-i : goal.invariant-loop-i
invariant-loop-i g l = IsPart g.C.Ring.ring l.legs l.t l.plan l.i (keys_of l.table.entries) all_done l.heights.entries
