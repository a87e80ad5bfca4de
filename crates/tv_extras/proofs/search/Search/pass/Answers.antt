use Rattle.tv_extras.proofs.Steps.{pass-same}
use Rattle.tv_extras.proofs.search.Search.pass.Goals as goal

pub returns-clause-passed : goal.returns-clause-passed
returns-clause-passed c =
    pass-same c.args.self.now.legs c.args.self.now.cells.items c.args.self.now.chosen.items c.args.self.now.places.items c.args.self.now.at c.args.self.now.left c.args.self.now.forward c.requires.found.forward c.requires.found.all c.requires.found.extras
