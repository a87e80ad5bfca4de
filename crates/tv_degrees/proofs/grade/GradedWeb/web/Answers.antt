use Rattle.std.proofs.Common.{sym, ap, ◌∙◌}
use Rattle.tv_spec_plane.specs.Web.{compact, outer, corners}
use Rattle.tv_degrees.proofs.Heights.{compact-heights, outer-heights, corners-heights}
use Rattle.tv_degrees.proofs.grade.GradedWeb.web.Goals as goal

pub returns-clause-same_compact : goal.returns-clause-same_compact
returns-clause-same_compact c = sym (compact-heights c.self.inside.web c.self.inside.heights.items) ∙ ap compact c.self.view_is

pub returns-clause-same_outer : goal.returns-clause-same_outer
returns-clause-same_outer c = sym (outer-heights c.self.inside.web c.self.inside.heights.items) ∙ ap outer c.self.view_is

pub returns-clause-same_corners : goal.returns-clause-same_corners
returns-clause-same_corners c = sym (corners-heights c.self.inside.web c.self.inside.heights.items) ∙ ap corners c.self.view_is
