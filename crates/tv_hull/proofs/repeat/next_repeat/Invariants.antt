use Rattle.std.proofs.Common.{ℕ, ◌<◌}
use Rattle.tv_hull.specs.Points.{IsRepeat}
use Rattle.tv_hull.proofs.repeat.next_repeat.Given as goal

abbrev pub invariant-loop-j : goal.invariant-loop-j
invariant-loop-j l = (k : ℕ) → k < l.j → IsRepeat l.points l.i k → ⊥
