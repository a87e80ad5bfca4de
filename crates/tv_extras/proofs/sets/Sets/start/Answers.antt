use Rattle.std.proofs.Common.{[], ◌∙◌, ap, arith}
use Rattle.tv_cells.specs.Cuts.{extras_after}
use Rattle.tv_extras.proofs.WorthSets.{worth-rises, worth-same}
use Rattle.tv_extras.proofs.sets.Sets.start.Goals as goal

pub start-search-requires-clause-order : goal.start-search-requires-clause-order
start-search-requires-clause-order c = rw c.in_ok-cells.ensures (worth-rises c.args.legs c.args.boxes)

pub returns : goal.returns
returns c = λ side l.
    c.start-search.ensures.value
    ∙ (ap (λ cells. extras_after c.args.legs [] cells c.args.boxes) c.in_ok-cells.ensures
    ∙ worth-same c.args.legs c.args.boxes side c.args.boxes c.known.ensures.diagrams (omega arith) l)
