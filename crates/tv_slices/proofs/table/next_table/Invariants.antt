use Rattle.std.proofs.Common.{take, pos, ◌+ℤ◌}
use Rattle.tv_slices.specs.Tables.{IsTable}
use Rattle.tv_slices.proofs.Levels.{shares}
use Rattle.tv_slices.proofs.table.next_table.Given as goal

abbrev pub invariant-loop-i : goal.invariant-loop-i
invariant-loop-i g l = IsTable g.C.Ring.ring l.legs l.k (l.t +ℤ pos 1) (shares l.legs l.k l.t (take l.i l.table.entries)) l.next.entries
