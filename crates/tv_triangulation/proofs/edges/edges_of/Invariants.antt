use Rattle.std.proofs.Common.{◌≡◌, take}
use Rattle.tv_laws_tiling.specs.Edges.{edges}
use Rattle.tv_triangulation.proofs.edges.edges_of.Given as goal

abbrev pub invariant-loop-t : goal.invariant-loop-t
invariant-loop-t l = l.edges.items ≡ edges (take l.t-index l.triangles)
