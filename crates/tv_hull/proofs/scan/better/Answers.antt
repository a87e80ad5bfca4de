use Rattle.std.proofs.Common.{◌≡◌, true}
use Rattle.tv_hull.proofs.Best.{best-skips, best-first}
use Rattle.tv_hull.proofs.scan.better.Goals as goal

pub returns-then-not-is_ahead : goal.returns-then-not-is_ahead
returns-then-not-is_ahead c =
    let ahead = rw (c.at.ensures, c.at-2.ensures) at c.is_ahead.ensures in
    best-skips c.args.points.now c.args.heading c.args.p c.args.k c.args.best c.requires.before (λ h. let is : c.is_ahead.result ≡ true = ahead.1 h in cc)

pub returns-in-None : goal.returns-in-None
returns-in-None c =
    let ahead = rw (c.at.ensures, c.at-2.ensures) at c.is_ahead.ensures in
    let none = rw c.in-None.is at c.requires.before in
    best-first c.args.points.now c.args.heading c.args.p c.args.k c.requires.small none (ahead.0 c.if-not-is_ahead.false)
