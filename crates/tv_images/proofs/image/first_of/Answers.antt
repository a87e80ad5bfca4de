use Rattle.std.proofs.Common.{sym, ◌∙◌}
use Rattle.tv_images.proofs.Least.{first-then, first-else}
use Rattle.tv_images.proofs.image.first_of.Goals as goal

pub returns-then-legs_before : goal.returns-then-legs_before
returns-then-legs_before c = first-then c.args.a c.args.b (sym c.legs_before.ensures ∙ c.if-legs_before.true)

pub returns-else-legs_before : goal.returns-else-legs_before
returns-else-legs_before c = first-else c.args.a c.args.b (sym c.legs_before.ensures ∙ c.if-legs_before.false)
