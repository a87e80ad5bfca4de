use Rattle.std.specs.Prelude.{pos, ◌-ℤ◌}
use Rattle.tv_slices.specs.Tables.{ways_to, IsTable}
use Rattle.tv_sums.proofs.counts.last_table.Given as goal

abbrev pub invariant-loop-i : goal.invariant-loop-i
invariant-loop-i g l = IsTable g.C.Ring.ring l.legs l.k (pos l.i -ℤ pos l.far) (ways_to l.legs l.k (pos l.i -ℤ pos l.far)) l.table.entries
