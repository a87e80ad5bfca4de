use Rattle.std.proofs.Common.{◌≡◌, take}
use Rattle.std.specs.Prelude.{filter}
use Rattle.tv_paths.specs.Among.{has_extras}
use Rattle.tv_paths.proofs.order.with_extras.Given as goal

abbrev pub invariant-loop-i : goal.invariant-loop-i
invariant-loop-i l = l.some.items ≡ filter (has_extras l.legs l.t l.extras) (take l.i l.keys)
