use Rattle.std.proofs.Common.{◌≡◌, ◌++◌, map, drop}
use Rattle.tv_lemmas.specs.Sums.{plus}
use Rattle.tv_candidates.proofs.sums.add_sums.Given as goal

abbrev pub invariant-loop-second : goal.invariant-loop-second
invariant-loop-second l =
    l.sums.items ++ map (plus l.first) (drop l.second-index l.seconds) ≡ l.initial.sums.items ++ map (plus l.first) l.seconds
