use Rattle.std.proofs.Common.{◌≡◌, ◌+◌, ◌∙◌, ap, suc, map, arith}
use Rattle.tv_spec_plane.specs.Web.{compact}
use Rattle.tv_spec_partial.specs.Partial.{is_pending}
use Rattle.tv_laws_frontier.specs.Steps.{is_new}
use Rattle.tv_frontier.proofs.Next.{choices-picked}
use Rattle.tv_frontier.proofs.steps.step_of.Goals as goal

pub returns : goal.returns
returns c =
    let up : c.args.stage.now.t + 1 ≡ suc c.args.stage.now.t = omega arith in
    let after = c.in_ok-after.ensures ∙ ap (λ z. map (is_pending z) (compact c.args.stage.now.web.now)) up in
    record {
      pending = c.in_ok-pending.ensures;
      fresh = c.in_ok-fresh.ensures;
      after = after;
      options = choices-picked c.args.stage.now.web.now (is_new c.args.stage.now.t) c.args.stage.now.d c.deref.result.now c.in_ok-options.options.items (c.deref.ensures.value ∙ c.in_ok-fresh.ensures) c.in_ok-options.ensures;
      keys = choices-picked c.args.stage.now.web.now (is_pending (suc c.args.stage.now.t)) c.args.stage.now.d c.deref-2.result.now c.in_ok-keys.keys.items (c.deref-2.ensures.value ∙ after) c.in_ok-keys.ensures;
    }
