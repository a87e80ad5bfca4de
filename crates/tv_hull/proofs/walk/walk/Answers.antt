use Rattle.tv_spec_plane.specs.Plane.{at}
use Rattle.tv_hull.proofs.Compare.{small-at}
use Rattle.tv_hull.proofs.Steps.{walked-start, walked-push, left-falls}
use Rattle.tv_hull.proofs.walk.walk.Goals as goal

pub loop-next-init : goal.loop-next-init
loop-next-init c = rw c.new-segments.ensures.items (walked-start c.args.points.now c.args.heading c.args.start c.requires.small c.requires.first)

pub loop-next-preserved : goal.loop-next-preserved
loop-next-preserved c = rw c.in_ok-push.ensures.items (walked-push c.args.points.now c.args.heading c.args.start c.loop-next.segments.items c.loop-next.here c.in-Some.next c.requires.small c.loop-next.invariant c.in-Some.ensures)

pub loop-next-smaller : goal.loop-next-smaller
loop-next-smaller c =
    let ps = c.args.points.now in
    left-falls c.args.heading (at ps c.loop-next.here) (at ps c.in-Some.next) (small-at ps c.loop-next.here c.requires.small) (small-at ps c.in-Some.next c.requires.small) c.in-Some.ensures.ahead

pub returns : goal.returns
returns c = record { way = c.loop-next.invariant.way; each = c.loop-next.invariant.each; listed = c.loop-next.invariant.listed; last = c.in_default.ensures }
