use Rattle.tv_top.proofs.ToldPieces.{first_finishes}
use Rattle.tv_top.proofs.pieces.tell_all.Goals as goal

pub pieces-preserved : goal.pieces-preserved
pieces-preserved g c = λ after r f.
    c.pieces.invariant after r (first_finishes c.args.web.now c.pieces.lister c.tell_next.new.lister _ _ after r c.in-Further.ensures f)
