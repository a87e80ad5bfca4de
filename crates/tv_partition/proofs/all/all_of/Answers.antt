use Rattle.tv_partition.proofs.Numbered.{numbered-keys}
use Rattle.tv_partition.proofs.all.all_of.Goals as goal

pub invariant_of-result : goal.invariant_of-result
invariant_of-result c = numbered-keys c.in_ok-set.set.keys c.in_ok-diagrams_of.field-0.items c.args.size c.in_ok-set.ensures c.in_ok-diagrams_of.ensures
