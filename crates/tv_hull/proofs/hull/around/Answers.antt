use Rattle.tv_hull.proofs.Rounds.{hull-runs}
use Rattle.tv_hull.proofs.hull.around.Goals as goal

pub returns : goal.returns
returns c =
    rw (c.in_ok-extend_from_slice.ensures.items, c.deref.ensures.value)
    (hull-runs c.args.points.now c.requires.small c.requires.distinct c.least_point.result c.in_ok-up.up.end c.in_ok-back.back.end c.in_ok-up.up.segments.items c.in_ok-back.back.segments.items c.least_point.ensures c.in_ok-up.ensures c.in_ok-back.ensures)
