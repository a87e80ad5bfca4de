-- Worked reports of configurations with diagrams on edges, and with boxes at more than one corner.
use Rattle.std.specs.Prelude.{◌≡◌, pos, negsuc, [], ◌∷◌, codes, refl}
use Rattle.std.specs.Fmt.{digits}
use Rattle.tv_spec_plane.specs.Plane.{turn}
use Rattle.tv_spec_plane.specs.Web.{compact, outer, edge_ref, edge_ratio}
use Rattle.tv_spec_plane.proofs.Examples.{conifold, local_p2}
use Rattle.tv_partition.specs.Rows.{diagrams, diagrams_within}
use Rattle.tv_cells.specs.Cells.{cube, sublists_of}
use Rattle.tv_cells.specs.Costs.{row_cost, rows_cost, overlap_cost, overlaps}
use Rattle.tv_spec_boxes.specs.Assignments.{assignments, choices}
use Rattle.tv_spec_boxes.specs.Configurations.{fillings}
use Rattle.tv_spec_text.specs.Lines.{line_text}
use Rattle.tv_spec_reports.specs.Boxes.{boxes_text}

-- the conifold with one box: one cell on its edge, and the box at either corner
conifold_one_box : boxes_text conifold (negsuc 0 ∷ pos 1 ∷ negsuc 0 ∷ pos 1 ∷ []) (pos 2) ≡ codes "report boxes\nheights 0 1 0 0\nchi 2\nclass 1 -1 1 -1 1\nsign -1\nconfig\nleg 0 2 1\nbox 1 1 0 0\nconfig\nleg 0 2 1\nbox 1 0 1 0\nconfig\nleg 0 2 1\nbox 0 1 0 0\nconfig\nleg 0 2 1\nbox 0 0 0 1\nend\n"
unfolding conifold fillings assignments choices compact outer edge_ref edge_ratio turn diagrams diagrams_within cube sublists_of row_cost rows_cost overlap_cost overlaps line_text digits
conifold_one_box = refl

-- in degree 2 a diagram of one row or of two
conifold_two_cells : boxes_text conifold (negsuc 1 ∷ pos 2 ∷ negsuc 1 ∷ pos 2 ∷ []) (pos 4) ≡ codes "report boxes\nheights 0 1 0 0\nchi 4\nclass 2 -2 2 -2 2\nsign 1\nconfig\nleg 0 2 2\nbox 1 1 0 0\nconfig\nleg 0 2 2\nbox 1 0 2 0\nconfig\nleg 0 2 2\nbox 0 1 0 0\nconfig\nleg 0 2 2\nbox 0 0 0 2\nconfig\nleg 0 2 1 1\nbox 1 2 0 0\nconfig\nleg 0 2 1 1\nbox 1 0 1 0\nconfig\nleg 0 2 1 1\nbox 0 2 0 0\nconfig\nleg 0 2 1 1\nbox 0 0 0 1\nend\n"
unfolding conifold fillings assignments choices compact outer edge_ref edge_ratio turn diagrams diagrams_within cube sublists_of row_cost rows_cost overlap_cost overlaps line_text digits
conifold_two_cells = refl

-- the ten of local P^2 in degree 3 without boxes: no line for an edge without a diagram
plane_third : boxes_text local_p2 (negsuc 8 ∷ pos 3 ∷ pos 3 ∷ pos 3 ∷ []) (pos 0) ≡ codes "report boxes\nheights 0 1 0 0\nchi 0\nclass 3 -9 3 3 3\nsign -1\nconfig\nleg 0 3 3\nconfig\nleg 0 2 1\nleg 0 3 2\nconfig\nleg 0 2 2\nleg 0 3 1\nconfig\nleg 0 2 3\nconfig\nleg 0 1 1\nleg 0 3 2\nconfig\nleg 0 1 1\nleg 0 2 1\nleg 0 3 1\nconfig\nleg 0 1 1\nleg 0 2 2\nconfig\nleg 0 1 2\nleg 0 3 1\nconfig\nleg 0 1 2\nleg 0 2 1\nconfig\nleg 0 1 3\nend\n"
unfolding local_p2 fillings assignments choices compact outer edge_ref edge_ratio turn diagrams diagrams_within cube sublists_of row_cost rows_cost overlap_cost overlaps line_text digits
plane_third = refl
