use Rattle.std.proofs.Common.{◌≡◌, List, ap, ◌∙◌, subst}
use Rattle.tv_spec_plane.specs.declared.records.Triple.{Triple}
use Rattle.tv_spec_plane.specs.Plane.{Point}
use Rattle.tv_spec_plane.specs.Web.{Web}
use Rattle.tv_triangulation.specs.Faults.{IsAnswer}
use Rattle.tv_acceptance.proofs.Sound.{unsound_answer}
use Rattle.tv_acceptance.proofs.acceptance.web_of.Goals as goal

pub returns-in-Err : goal.returns-in-Err
returns-in-Err c =
    let points : c.deref.result.now ≡ c.args.file.points = c.deref.ensures.value ∙ ap (λ (w : Web). w.points) c.file.view_is in
    let triangles : c.deref-2.result.now ≡ c.args.file.triangles = c.deref-2.ensures.value ∙ ap (λ (w : Web). w.triangles) c.file.view_is in
    unsound_answer c.args.file c.in-Err.error (subst (λ (ts : List Triple). IsAnswer c.args.file.points ts c.in-Err.error) triangles (subst (λ (ps : List Point). IsAnswer ps c.deref-2.result.now c.in-Err.error) points c.in-Err.ensures.checks))
