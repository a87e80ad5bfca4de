use Rattle.std.proofs.Common.{◌≡◌, take}
use Rattle.tv_spec_plane.specs.Web.{compact}
use Rattle.tv_laws_frontier.specs.Steps.{nothing}
use Rattle.tv_frontier.proofs.picks.nothing.Given as goal

abbrev pub invariant-loop-k : goal.invariant-loop-k
invariant-loop-k l = l.all.items ≡ nothing (take l.k (compact l.web))
