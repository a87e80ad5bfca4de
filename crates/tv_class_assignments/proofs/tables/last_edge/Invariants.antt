use Rattle.std.proofs.Common.{◌≡◌, ◌<◌, ◌≤◌, ℕ, get_or, pos}
use Rattle.tv_spec_plane.specs.Web.{edge_class}
use Rattle.tv_degrees.specs.Edges.{edge_at}
use Rattle.tv_class_assignments.proofs.tables.last_edge.Given as goal

abbrev pub invariant-loop-e : goal.invariant-loop-e
invariant-loop-e l = (i : ℕ) → l.last ≤ i → i < l.e → get_or (edge_class l.web (edge_at l.web i)) l.p (pos 0) ≡ pos 0
