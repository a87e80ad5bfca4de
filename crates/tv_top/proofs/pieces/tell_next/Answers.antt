use Rattle.tv_top.proofs.ToldPieces.{end_finishes, steps_from}
use Rattle.tv_top.proofs.pieces.tell_next.Goals as goal

pub returns-in-Ok-Some : goal.returns-in-Ok-Some
returns-in-Ok-Some g c = steps_from c.args.web.now c.args.lister.now c.next.new.self c.in-Ok-Some.config _ c.tell_config.result (rw c.in-Ok-Some.field-0-is at c.in-Ok-Some.ensures.ok) (c.tell_config.ensures c.next.new.self)

pub returns-in-Ok-None : goal.returns-in-Ok-None
returns-in-Ok-None g c =
    let none = rw c.in-Ok-None.field-0-is at c.in-Ok-None.ensures.ok in
    end_finishes c.args.web.now c.args.lister.now _ c.tell_end.result none.0 c.tell_end.ensures
