use Rattle.std.proofs.Common.{◌≡◌, true}
use Rattle.tv_hull.proofs.Best.{best-stays, best-changes}
use Rattle.tv_hull.proofs.scan.better_of.Goals as goal

pub returns-then-is_kept : goal.returns-then-is_kept
returns-then-is_kept c =
    let kept = rw (c.at.ensures, c.at-2.ensures, c.at-3.ensures) at c.is_kept.ensures in
    best-stays c.args.points.now c.args.heading c.args.p c.args.k c.args.b c.requires.before (kept.0 c.if-is_kept.true)

pub returns-else-is_kept : goal.returns-else-is_kept
returns-else-is_kept c =
    let kept = rw (c.at.ensures, c.at-2.ensures, c.at-3.ensures) at c.is_kept.ensures in
    best-changes c.args.points.now c.args.heading c.args.p c.args.k c.args.b c.requires.small c.requires.before c.requires.ahead (λ h. let is : c.is_kept.result ≡ true = kept.1 h in cc)
