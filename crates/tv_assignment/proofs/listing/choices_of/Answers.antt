use Rattle.tv_assignment.proofs.Written.{written-all}
use Rattle.tv_assignment.proofs.listing.choices_of.Goals as goal

pub returns : goal.returns
returns c = written-all c.args.d _ c.new-all.result.items c.new-front.result.items c.args.degrees.now c.new-all.ensures.items c.new-front.ensures.items c.in_ok-push_choices.ensures.all
