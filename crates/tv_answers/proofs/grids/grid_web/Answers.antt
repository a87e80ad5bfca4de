use Rattle.std.proofs.Common.{subst}
use Rattle.tv_spec_plane.specs.Web.{Web}
use Rattle.tv_acceptance.specs.Acceptance.{IsSound, IsUnsoundBy}
use Rattle.tv_acceptance.proofs.GridWebs.{grid_web_is, grid_passes}
use Rattle.tv_answers.proofs.grids.grid_web.Goals as goal

pub returns-in-Ok-web_of : goal.returns-in-Ok-web_of
returns-in-Ok-web_of c = grid_web_is c.args.side c.requires c.in-Ok-web_of.web (subst (λ (file : Web). IsSound file c.in-Ok-web_of.web) c.in-Ok.ensures c.in-Ok-web_of.ensures)

pub unreachable-requires : goal.unreachable-requires
unreachable-requires c =
    let unsound = rw c.in-Err-Fault.field-0-is at c.in-Err-Fault.ensures in
    grid_passes c.args.side c.requires c.in-Err-Fault.field-0-0 (subst (λ (file : Web). IsUnsoundBy file c.in-Err-Fault.field-0-0) c.in-Ok.ensures unsound)
