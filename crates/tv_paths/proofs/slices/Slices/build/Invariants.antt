use Rattle.std.proofs.Common.{◌≡◌, ◌+◌, map}
use Rattle.std.specs.Prelude.{pos, ◌-ℤ◌}
use Rattle.tv_laws_series.specs.Terms.{listed}
use Rattle.tv_slices.specs.Tables.{ways_to, IsTable}
use Rattle.tv_paths.specs.Built.{diagonal_counts}
use Rattle.tv_paths.proofs.slices.Slices.build.Given as goal

abbrev pub invariant-loop-i : goal.invariant-loop-i
invariant-loop-i g l =
    IsTable g.C.Ring.ring l.legs l.k (pos l.i -ℤ pos l.far) (ways_to l.legs l.k (pos l.i -ℤ pos l.far)) l.table.entries
    × (map (λ v. v.items) l.diagonals.items ≡ listed (diagonal_counts g.C.Ring.ring l.legs l.k l.far) (l.i + 1))
