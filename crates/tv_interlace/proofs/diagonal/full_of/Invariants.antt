use Rattle.std.proofs.Common.{◌≡◌, ◌≤◌}
use Rattle.tv_cells.specs.Extras.{extent}
use Rattle.tv_spec_slices.specs.Paths.{full_of}
use Rattle.tv_partition.specs.declared.diagram.TheConstants.{MOST_CELLS}
use Rattle.tv_interlace.proofs.diagonal.full_of.Given as goal

abbrev pub invariant-loop-n : goal.invariant-loop-n
invariant-loop-n l = record {
  value : full_of l.legs l.t l.n ≡ full_of l.legs l.t (extent l.legs);
  bound : l.n ≤ MOST_CELLS;
}

abbrev pub decreases-loop-n : goal.decreases-loop-n
decreases-loop-n l = l.n
