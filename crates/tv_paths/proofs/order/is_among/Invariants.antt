use Rattle.std.proofs.Common.{◌≡◌, drop}
use Rattle.tv_paths.specs.Among.{is_among}
use Rattle.tv_paths.proofs.order.is_among.Given as goal

abbrev pub invariant-loop-i : goal.invariant-loop-i
invariant-loop-i l = is_among (drop l.i l.keys) l.slice ≡ is_among l.keys l.slice
