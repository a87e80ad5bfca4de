use Rattle.std.proofs.Common.{rules, ◌<◌, length, sym, subst, w64, FitsSigned}
use Rattle.std.proofs.lemmas.Int.{to_z-of_z}
use Rattle.tv_spec_plane.specs.Web.{Web, compact}
use Rattle.tv_degrees.proofs.Graded.{degree-positive}
use Rattle.tv_degrees.proofs.grade.GradedWeb.degree_of.Goals as goal

pub returns-clause-positive : goal.returns-clause-positive
returns-clause-positive c =
    let fits : FitsSigned w64 c.index.result.now = search rules in
    let listed = subst (λ (w : Web). c.args.e < length (compact w)) (sym c.self.view_is) c.requires in
    rw (to_z-of_z w64 c.index.result.now fits) (degree-positive _ c.self.inside.classes.items c.self.inside.degrees.items c.args.e c.index.result.now c.index.result.now listed c.self.invariant.1 c.index.ensures)
