use Rattle.std.proofs.Common.{◌≡◌}
use Rattle.tv_paths.proofs.Entries.{UpTo}
use Rattle.tv_paths.proofs.counts.counted.Given as goal

abbrev pub invariant-loop-i : goal.invariant-loop-i
invariant-loop-i g l = l.all.items ≡ UpTo g.C.Ring.ring l.legs l.k l.t l.slices.items l.i
