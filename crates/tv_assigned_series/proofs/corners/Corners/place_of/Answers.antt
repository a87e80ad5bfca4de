use Rattle.tv_assigned_series.proofs.Keeping.{place-counted}
use Rattle.tv_assigned_series.proofs.corners.Corners.place_of.Goals as goal

pub returns-clause-value : goal.returns-clause-value
returns-clause-value g c =
    place-counted g.C.Ring.ring c.args.legs.now c.in_ok-image.image c.args.k c.place_under.new.self c.place_under.result c.in_ok-image.ensures.counts c.place_under.ensures.value
