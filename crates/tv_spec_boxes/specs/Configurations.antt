-- Box configurations and their signed count.
--
-- Configuration       == a diagram for each compact edge, and extras at each corner
-- extras_of legs side i == the sets of i extras from the cube of that side plus the extent
-- fillings legs side n == a set of extras at each corner, n boxes in all, each from the cube of that side plus the
--                        corner's extent; of two sets the one of fewer boxes first, then by the cells
-- fillings_of legs n  == those with n boxes from cubes of side n; none where n is below 0
-- boxes_left w fixed a n == how many boxes bring the assignment to the Euler characteristic n
-- configuration a extras == the configuration of both
-- configurations_on w fixed a n == the configurations with that assignment and Euler characteristic
-- configurations w fixed v n == the configurations of class v and Euler characteristic n, each once, in order: by the
--                        diagrams in the order of edges, then by the extras in the order of corners; of a web in which
--                        every compact edge has a degree of at least 1
-- boxes_of sets       == the number of boxes
-- chi_of w fixed c    == the Euler characteristic: edge costs, and boxes, less the overlap costs
-- configuration_sign w fixed c == (-1)^(chi + s), with s the sum of the normal degree at a times the size
-- signed_count w fixed v n == the sum of the signs over the configurations of class v and Euler characteristic n
use Rattle.std.specs.Prelude.{ℕ, suc, ◌+◌, ◌-◌, ℤ, pos, negsuc, ◌+ℤ◌, ◌-ℤ◌, List, [], ◌∷◌, map, filter, length, cond, nat_eq}
use Rattle.std.specs.List.{flat_map}
use Rattle.tv_lemmas.specs.Sums.{total, sum_of}
use Rattle.tv_spec_plane.specs.Web.{Web, below, sign}
use Rattle.tv_cells.specs.declared.cell.Cell.{Cell}
use Rattle.tv_cells.specs.declared.legs.Legs.{Legs}
use Rattle.tv_cells.specs.Cells.{cube, sublists_of}
use Rattle.tv_cells.specs.Extras.{is_extras, extent}
use Rattle.tv_spec_boxes.specs.Assignments.{Rows, Assignment, all_legs, assignments_of, edge_costs, edge_twist, overlaps_of}

pub record Configuration : Type 0 where
  pub diagrams : Assignment
  pub extras : List (List Cell)

-- the sets of i extras from the cube of that side plus the extent
abbrev pub extras_of : Legs → ℕ → ℕ → List (List Cell)
extras_of legs side i = filter (is_extras legs) (sublists_of i (cube (side + extent legs)))

unfoldable pub fillings : List Legs → ℕ → ℕ → List (List (List Cell))
fillings [] side n = cond (nat_eq n 0) ([] ∷ []) []
fillings (legs ∷ rest) side n =
    flat_map (λ i. flat_map (λ cells. map (λ others. cells ∷ others) (fillings rest side (n - i))) (extras_of legs side i))
    (below (suc n))

abbrev pub fillings_of : List Legs → ℤ → List (List (List Cell))
fillings_of legs (pos n) = fillings legs n n
fillings_of legs (negsuc n) = []

abbrev pub boxes_left : Web → List Rows → Assignment → ℤ → ℤ
boxes_left w fixed a n = (n -ℤ edge_costs w a) +ℤ pos (overlaps_of (all_legs w a fixed))

abbrev pub configuration : Assignment → List (List Cell) → Configuration
configuration a cells = record { diagrams = a; extras = cells }

abbrev pub configurations_on : Web → List Rows → Assignment → ℤ → List Configuration
configurations_on w fixed a n = map (configuration a) (fillings_of (all_legs w a fixed) (boxes_left w fixed a n))

abbrev pub configurations : Web → List Rows → List ℤ → ℤ → List Configuration
configurations w fixed v n = flat_map (λ a. configurations_on w fixed a n) (assignments_of w v)

abbrev pub boxes_of : List (List Cell) → ℕ
boxes_of sets = sum_of length sets

abbrev pub chi_of : Web → List Rows → Configuration → ℤ
chi_of w fixed c = (edge_costs w c.diagrams +ℤ pos (boxes_of c.extras)) -ℤ pos (overlaps_of (all_legs w c.diagrams fixed))

abbrev pub configuration_sign : Web → List Rows → Configuration → ℤ
configuration_sign w fixed c = sign (chi_of w fixed c +ℤ edge_twist w c.diagrams)

unfoldable pub signed_count : Web → List Rows → List ℤ → ℤ → ℤ
signed_count w fixed v n = total (configuration_sign w fixed) (configurations w fixed v n)
