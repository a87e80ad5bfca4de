use Rattle.std.proofs.Common.{subst}
use Rattle.tv_spec_plane.specs.Web.{Web}
use Rattle.tv_laws_edges.specs.Rule.{HasEdgeRule}
use Rattle.tv_degrees.proofs.Heights.{HasEdgeRule-heights}
use Rattle.tv_degrees.proofs.grade.GradedWeb.known.Goals as goal

pub returns-clause-rule : goal.returns-clause-rule
returns-clause-rule c = subst (λ (w : Web). HasEdgeRule w) c.self.view_is (HasEdgeRule-heights c.self.inside.web c.self.inside.heights.items c.known.ensures.rule)
