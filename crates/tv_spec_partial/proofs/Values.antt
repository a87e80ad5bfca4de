-- Worked values of partial counts: the conifold after its first corner.
use Rattle.std.specs.Prelude.{◌≡◌, pos, negsuc, [], ◌∷◌, map, refl}
use Rattle.tv_spec_plane.specs.Plane.{turn}
use Rattle.tv_spec_plane.specs.Web.{compact, outer, edge_ref, edge_ratio}
use Rattle.tv_spec_plane.proofs.Examples.{conifold}
use Rattle.tv_partition.specs.Rows.{diagrams, diagrams_within}
use Rattle.tv_cells.specs.Cells.{cube, sublists_of}
use Rattle.tv_cells.specs.Costs.{row_cost, rows_cost, overlap_cost, overlaps}
use Rattle.tv_spec_boxes.specs.Assignments.{assignments, choices}
use Rattle.tv_spec_boxes.specs.Configurations.{fillings}
use Rattle.tv_spec_partial.specs.Partial.{pending, partial_count}

-- its edge is pending
conifold_pending : pending conifold 1 ≡ 0 ∷ []
unfolding conifold compact
conifold_pending = refl

-- with the empty diagram there, class zero has 1, -1 from exponent 0
conifold_empty : map (partial_count conifold 1 ([] ∷ []) (pos 0 ∷ pos 0 ∷ pos 0 ∷ pos 0 ∷ [])) (pos 0 ∷ pos 1 ∷ []) ≡ pos 1 ∷ negsuc 0 ∷ []
unfolding conifold partial_count fillings assignments choices compact outer edge_ref edge_ratio turn diagrams diagrams_within cube sublists_of row_cost rows_cost overlap_cost overlaps
conifold_empty = refl

-- with one box there, the edge's class has 1 at exponent 1
conifold_one : map (partial_count conifold 1 ((1 ∷ []) ∷ []) (negsuc 0 ∷ pos 1 ∷ negsuc 0 ∷ pos 1 ∷ [])) (pos 0 ∷ pos 1 ∷ []) ≡ pos 0 ∷ pos 1 ∷ []
unfolding conifold partial_count fillings assignments choices compact outer edge_ref edge_ratio turn diagrams diagrams_within cube sublists_of row_cost rows_cost overlap_cost overlaps
conifold_one = refl
