use Rattle.std.proofs.Common.{◌≡◌, ◌<◌, false, length, ap, ◌∙◌, get_or, arith}
use Rattle.tv_spec_plane.specs.Web.{compact}
use Rattle.tv_frontier.proofs.Listing.{edges-next, edges-last}
use Rattle.tv_frontier.proofs.states.pending_edges.Goals as goal

pub loop-e-preserved : goal.loop-e-preserved
loop-e-preserved c =
    let listed : length c.compact.result.now ≡ length (compact c.args.web.now) = ap length c.compact.ensures.value in
    let bound : c.loop-e.e < length (compact c.args.web.now) = (let h = c.loop-e-test.true in let f = c.compact.ensures.few in omega arith) in
    edges-next c.args.web.now c.args.t c.loop-e.edges.items c.push_edge.new.edges.items c.loop-e.e c.takes.result bound
    (c.takes.ensures ∙ ap (λ fs. get_or fs c.loop-e.e false) (c.deref.ensures.value ∙ c.in_ok-flags.ensures)) c.in_ok-push_edge.ensures c.loop-e.invariant

pub returns : goal.returns
returns c =
    let listed : length c.compact.result.now ≡ length (compact c.args.web.now) = ap length c.compact.ensures.value in
    edges-last c.args.web.now c.args.t c.loop-e.edges.items c.loop-e.e (let h = c.loop-e-test.false in let f = c.compact.ensures.few in omega arith) c.loop-e.invariant
