use Rattle.std.proofs.Common.{◌≡◌, ◌++◌}
use Rattle.std.specs.Prelude.{filter}
use Rattle.tv_spec_slices.specs.Paths.{fitting}
use Rattle.tv_paths.specs.Among.{is_among}
use Rattle.tv_paths.proofs.Ordered.{left_from}
use Rattle.tv_paths.proofs.order.ordered.Given as goal

abbrev pub invariant-loop-extras : goal.invariant-loop-extras
invariant-loop-extras l = l.all.items ++ left_from l.keys l.legs l.t l.extras l.extras-end ≡ filter (is_among l.keys) (fitting l.legs l.t l.budget)
