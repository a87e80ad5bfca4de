use Rattle.tv_hull.proofs.Pairs.{NoneBelow}
use Rattle.tv_hull.specs.Points.{IsRepeat}
use Rattle.tv_hull.proofs.repeat.first_repeat.Given as goal

abbrev pub invariant-loop-i : goal.invariant-loop-i
invariant-loop-i l = NoneBelow (IsRepeat l.points) l.i
