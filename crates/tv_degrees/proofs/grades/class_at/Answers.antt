use Rattle.std.proofs.Common.{sym, ◌∙◌}
use Rattle.tv_degrees.proofs.Heights.{edge_class-heights}
use Rattle.tv_degrees.proofs.grades.class_at.Goals as goal

pub returns : goal.returns
returns c = c.in_ok-class_of.ensures ∙ sym (edge_class-heights c.args.web.now c.args.heights.now c.args.edge)
