use Rattle.serde_json.specs.View.{view}
use Rattle.tv_json.proofs.Objects.{third-member}
use Rattle.tv_json.proofs.members.parts_of.Goals as goal

pub returns-in_err-triangles : goal.returns-in_err-triangles
returns-in_err-triangles c =
    rw c.from_residual-in_err-triangles.ensures (λ h p t e.
    c.in_err-triangles.ensures t _ (third-member (view c.args.value.now) _ _ _ _ _ _ _ _ _ h p t _ c.in_ok-as_object.ensures c.iter-members.ensures.rest c.in_ok-heights.ensures c.in_ok-points.ensures e))
