use Rattle.std.proofs.Common.{◌≡◌}
use Rattle.tv_laws_series.specs.Terms.{listed}
use Rattle.tv_spec_slices.specs.Slices.{at}
use Rattle.tv_laws_sums.specs.Mixed.{put}
use Rattle.tv_sums.proofs.key.with_height.Given as goal

abbrev pub invariant-loop-d : goal.invariant-loop-d
invariant-loop-d l = l.heights.items ≡ listed (put (at l.s) l.p l.y) l.d
