use Rattle.std.proofs.Common.{◌≡◌, ◌<◌, ◌+◌, suc, length, ap, sym, ◌∙◌, arith}
use Rattle.tv_spec_plane.specs.Web.{compact}
use Rattle.tv_frontier.proofs.Picked.{nothing-next}
use Rattle.tv_frontier.proofs.picks.nothing.Goals as goal

pub loop-k-preserved : goal.loop-k-preserved
loop-k-preserved c =
    let same = ap length c.compact-k-end.ensures.value in
    let within : c.loop-k.k < length (compact c.args.web.now) = omega arith in
    let up : c.loop-k.k + 1 ≡ suc c.loop-k.k = omega arith in
    c.in_ok-push.ensures.items ∙ rw (c.loop-k.invariant, c.empty.ensures, up) (sym (nothing-next (compact c.args.web.now) c.loop-k.k within))
