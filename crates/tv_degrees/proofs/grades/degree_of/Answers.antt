use Rattle.std.proofs.Common.{sym, ap, ◌∙◌, length}
use Rattle.tv_degrees.specs.Edges.{with_heights}
use Rattle.tv_degrees.proofs.Entries.{length-edge_class}
use Rattle.tv_degrees.proofs.grades.degree_of.Goals as goal

pub degree-requires-clause-same_length : goal.degree-requires-clause-same_length
degree-requires-clause-same_length c = c.requires.one_each ∙ sym (ap length c.requires.same ∙ length-edge_class (with_heights c.args.web.now c.args.heights.now) c.args.edge)
