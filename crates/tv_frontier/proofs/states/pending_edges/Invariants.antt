use Rattle.std.specs.Prelude.{◌≡◌, ◌++◌, drop, filter, length}
use Rattle.tv_lemmas.specs.Naturals.{below}
use Rattle.tv_spec_plane.specs.Web.{compact}
use Rattle.tv_spec_partial.specs.Partial.{pending}
use Rattle.tv_frontier.proofs.Listing.{is_one}
use Rattle.tv_frontier.proofs.states.pending_edges.Given as goal

abbrev pub invariant-loop-e : goal.invariant-loop-e
invariant-loop-e l = l.edges.items ++ filter (is_one l.web l.t) (drop l.e (below (length (compact l.web)))) ≡ pending l.web l.t
