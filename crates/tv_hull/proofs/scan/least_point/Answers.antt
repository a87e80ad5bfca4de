use Rattle.std.proofs.Common.{◌≡◌, ◌+◌, true, subst, sym, arith}
use Rattle.tv_hull.proofs.Least.{IsLeastOf, least-first, least-stays, least-changes, least-all}
use Rattle.tv_hull.proofs.scan.least_point.Goals as goal
use Rattle.tv_hull.proofs.scan.least_point.Goals.{then-is_less, else-is_less}

pub loop-k-init : goal.loop-k-init
loop-k-init c = least-first c.args.points.now c.requires.some

pub loop-k-preserved : goal.loop-k-preserved
loop-k-preserved c =
    let ps = c.args.points.now in
    let k = c.loop-k.k in
    let less = rw (c.at.ensures, c.at-in-loop-k.ensures) at c.is_less.ensures in
    elim c.if-is_less.branch [
      | then-is_less w ↦ subst (IsLeastOf ps (k + 1)) (sym w.least-is) (least-changes ps k c.loop-k.least (omega arith) c.loop-k.invariant (less.0 w.if-is_less.true))
      | else-is_less w ↦ subst (IsLeastOf ps (k + 1)) (sym w.least-is) (least-stays ps k c.loop-k.least c.loop-k.invariant (λ h. let is : c.is_less.result ≡ true = less.1 h in let not = w.if-is_less.false in cc))
    ]

pub returns : goal.returns
returns c = least-all c.args.points.now c.loop-k.k c.loop-k.least (omega arith) c.loop-k.invariant
