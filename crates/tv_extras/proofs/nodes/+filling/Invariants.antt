use Rattle.std.proofs.Common.{◌+◌, ◌*◌, ◌<◌, ◌∷◌, length}
use Rattle.tv_extras.specs.Sized.{sized}
use Rattle.tv_extras.specs.Nodes.{IsSameFill}
use Rattle.tv_extras.proofs.nodes.+filling.Given as goal

abbrev pub decreases-next : goal.decreases-next
decreases-next l = 2 * length l.nodes.now

abbrev pub decreases-next_inside : goal.decreases-next_inside
decreases-next_inside l = 2 * length l.later.now + 1

abbrev pub invariant-next-sets : goal.invariant-next-sets
invariant-next-sets l = record {
  same : IsSameFill l.most (l.initial.node ∷ l.initial.later) (l.node ∷ l.later);
  some : 0 < length l.later;
}

abbrev pub decreases-next-sets : goal.decreases-next-sets
decreases-next-sets l = length (sized l.node.sets)
