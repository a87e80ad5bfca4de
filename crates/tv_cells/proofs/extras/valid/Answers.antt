use Rattle.std.proofs.Common.{sym, ◌∙◌}
use Rattle.tv_cells.proofs.Downward.{valid_exact}
use Rattle.tv_cells.proofs.extras.valid.Goals as goal

pub returns-then-rises-clause-exact : goal.returns-then-rises-clause-exact
returns-then-rises-clause-exact c =
    valid_exact c.args.legs.now c.args.extras.now c.is_extras.result c.known.ensures.diagrams (sym c.rises.ensures ∙ c.if-rises.true) c.is_extras.ensures
