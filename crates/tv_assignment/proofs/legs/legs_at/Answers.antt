use Rattle.std.proofs.Common.{◌<◌, subst, sym, length}
use Rattle.std.proofs.lemmas.Result.{IfOk-weaker}
use Rattle.tv_cells.specs.Extras.{empty_legs}
use Rattle.tv_assignment.proofs.OpenLegs.{legs-there}
use Rattle.tv_assignment.proofs.legs.legs_at.Goals as goal

pub returns : goal.returns
returns c =
    let there : c.args.t < length c.corners.result.now = subst (λ cs. c.args.t < length cs) (sym c.corners.ensures) c.requires in
    IfOk-weaker c.legs_of.result _ _ (λ legs is. legs-there c.args.web.now c.args.assignment.now c.args.t _ c.corners.result.now empty_legs legs there c.corners.ensures is) c.legs_of.ensures
