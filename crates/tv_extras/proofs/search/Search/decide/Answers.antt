use Rattle.tv_extras.proofs.Steps.{next-is}
use Rattle.tv_extras.proofs.search.Search.decide.Goals as goal

pub take-requires-clause-next : goal.take-requires-clause-next
take-requires-clause-next c = next-is c.args.self.now.cells.items c.args.self.now.at c.index-cell.result.now c.requires.before c.index-cell.ensures

pub leave-requires-clause-next : goal.leave-requires-clause-next
leave-requires-clause-next c = next-is c.args.self.now.cells.items c.args.self.now.at c.index-cell.result.now c.requires.before c.index-cell.ensures
