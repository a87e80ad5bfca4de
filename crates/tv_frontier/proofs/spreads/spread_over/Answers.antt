use Rattle.std.proofs.Common.{◌≡◌, ap, ◌∙◌}
use Rattle.tv_spec_plane.specs.Web.{compact}
use Rattle.tv_laws_frontier.specs.Steps.{nothing}
use Rattle.tv_frontier.specs.Picks.{put_by}
use Rattle.tv_frontier.proofs.Spread.{spread-long, spread-few}
use Rattle.tv_frontier.proofs.spreads.spread_over.Goals as goal

pub class_of-requires-clause-one_each : goal.class_of-requires-clause-one_each
class_of-requires-clause-one_each c =
    let is : c.new-part.result ≡ put_by c.args.flags.now c.args.choice.now (nothing (compact c.args.web.now)) = c.new-part.ensures ∙ (c.in_ok-put.ensures ∙ (ap (λ g. put_by c.args.flags.now g c.deref.result.now) c.diagrams.ensures ∙ ap (put_by c.args.flags.now c.args.choice.now) (c.deref.ensures.value ∙ c.in_ok-base.ensures))) in
    spread-long c.args.web.now c.args.flags.now c.args.choice.now c.new-part.result is

pub class_of-requires-clause-few : goal.class_of-requires-clause-few
class_of-requires-clause-few c =
    let is : c.new-part.result ≡ put_by c.args.flags.now c.args.choice.now (nothing (compact c.args.web.now)) = c.new-part.ensures ∙ (c.in_ok-put.ensures ∙ (ap (λ g. put_by c.args.flags.now g c.deref.result.now) c.diagrams.ensures ∙ ap (put_by c.args.flags.now c.args.choice.now) (c.deref.ensures.value ∙ c.in_ok-base.ensures))) in
    spread-few c.args.web.now c.args.flags.now c.args.choice.now c.new-part.result is c.requires.few
