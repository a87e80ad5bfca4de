use Rattle.std.proofs.Common.{◌∙◌}
use Rattle.tv_top.proofs.ToldPieces.{config_part_finishes, same_config}
use Rattle.tv_top.proofs.pieces.tell_config.Goals as goal

pub returns : goal.returns
returns g c = λ others.
    let printed = c.deref.ensures.value ∙ (c.in-Ok.ensures ∙ same_config c.args.web.now c.args.config.now _ _ c.legs.ensures c.extras.ensures) in
    config_part_finishes c.args.web.now c.args.config.now others _ _ c.in-Err.ensures.count c.deref.result.now printed c.in-Err.ensures.appended c.in-Err.ensures.outcome
