use Rattle.std.proofs.Common.{◌≡◌, length, ap, arith}
use Rattle.tv_spec_plane.specs.Web.{compact}
use Rattle.tv_assignment.proofs.Degrees.{degrees-next}
use Rattle.tv_assignment.proofs.listing.degrees_of.Goals as goal

pub loop-e-preserved : goal.loop-e-preserved
loop-e-preserved c =
    let listed : length c.compact.result.now ≡ length (compact c.args.web.now) = ap length c.compact.ensures.value in
    degrees-next c.args.web.now c.loop-e.e c.degree_at.result c.loop-e.degrees.items _ (omega arith) c.degree_at.ensures c.in_ok-push.ensures.items c.loop-e.invariant
