use Rattle.std.proofs.Common.{◌≡◌, ◌∙◌, ap}
use Rattle.tv_partition.specs.Rows.{diagrams}
use Rattle.tv_partition.proofs.Numbered.{number-exists, number-value}
use Rattle.tv_partition.proofs.all.Diagrams.number.Goals as goal

keys_are : (c : goal.After-get_index_of) → c.self.inside.set.keys ≡ diagrams c.args.self.now
keys_are c = c.self.invariant ∙ ap diagrams c.self.view_is

pub returns-clause-exists : goal.returns-clause-exists
returns-clause-exists c = number-exists c.args.d.now c.self.inside.set.keys c.args.self.now c.get_index_of.result c.get_index_of.ensures.found (keys_are c) c.known.ensures

pub returns-clause-value : goal.returns-clause-value
returns-clause-value c = number-value c.args.d.now c.self.inside.set.keys c.args.self.now c.get_index_of.result c.get_index_of.ensures.index (keys_are c)
