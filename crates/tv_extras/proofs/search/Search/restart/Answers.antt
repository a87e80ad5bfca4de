use Rattle.std.proofs.Common.{length, arith, ap}
use Rattle.tv_extras.proofs.Steps.{start-same, start-choices, start-rising}
use Rattle.tv_extras.proofs.search.Search.restart.Goals as goal

pub returns-clause-valid : goal.returns-clause-valid
returns-clause-valid c =
    let s = c.args.self.now in
    record {
      order = c.requires.valid.order;
      choices = start-choices s.cells.items c.clear.new.self.items c.clear-2.new.self.items c.clear.ensures.items c.clear-2.ensures.items;
      rising = λ e. start-rising s.cells.items c.clear.new.self.items c.clear.ensures.items c.requires.valid.order;
      within = omega arith;
      few = let none = ap length c.clear.ensures.items in omega arith;
    }

pub returns-clause-value : goal.returns-clause-value
returns-clause-value c =
    let s = c.args.self.now in
    start-same s.legs s.cells.items c.clear.new.self.items c.clear-2.new.self.items c.args.size c.clear.ensures.items c.clear-2.ensures.items
