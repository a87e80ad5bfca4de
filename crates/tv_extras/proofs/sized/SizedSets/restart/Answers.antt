use Rattle.std.proofs.Common.{arith}
use Rattle.tv_extras.specs.Search.{to_come}
use Rattle.tv_extras.proofs.Sizes.{restart-value}
use Rattle.tv_extras.proofs.sized.SizedSets.restart.Goals as goal

pub returns-clause-value : goal.returns-clause-value
returns-clause-value c =
    let s = c.args.self.now in
    restart-value s.search.legs c.restart.new.self.legs s.search.cells.items (to_come c.restart.new.self) s.most c.args.first c.args.last c.restart.ensures.legs c.requires.valid.worth c.requires.valid.diagrams (omega (arith, c.requires.first, c.requires.last)) c.restart.ensures.value
