use Rattle.std.proofs.Common.{◌≡◌, take}
use Rattle.std.specs.Prelude.{filter}
use Rattle.tv_paths.specs.Among.{has_height}
use Rattle.tv_paths.proofs.order.with_height.Given as goal

abbrev pub invariant-loop-i : goal.invariant-loop-i
invariant-loop-i l = l.some.items ≡ filter (has_height l.d l.height) (take l.i l.keys)
