use Rattle.std.proofs.Common.{length, arith, ap}
use Rattle.tv_extras.proofs.Steps.{start-same, start-choices, start-rising}
use Rattle.tv_extras.proofs.search.Search.start.Goals as goal

pub returns-clause-valid : goal.returns-clause-valid
returns-clause-valid c = record {
  order = c.requires.order;
  choices = start-choices c.args.cells.items c.new.result.items c.new-2.result.items c.new.ensures.items c.new-2.ensures.items;
  rising = λ e. start-rising c.args.cells.items c.new.result.items c.new.ensures.items c.requires.order;
  within = omega arith;
  few = let none = ap length c.new.ensures.items in omega arith;
}

pub returns-clause-value : goal.returns-clause-value
returns-clause-value c = start-same c.args.legs c.args.cells.items c.new.result.items c.new-2.result.items c.args.size c.new.ensures.items c.new-2.ensures.items
