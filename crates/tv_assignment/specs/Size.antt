-- How large an assignment is.
--
-- cells_of a  == the number of cells of the diagrams together
-- IsOn w a    == a has a diagram for each compact edge, and at most MOST_CELLS cells
use Rattle.std.specs.Prelude.{◌≡◌, ℕ, ◌+◌, ◌≤◌, [], ◌∷◌, length}
use Rattle.tv_spec_plane.specs.Web.{Web, compact}
use Rattle.tv_partition.specs.declared.diagram.TheConstants.{MOST_CELLS}
use Rattle.tv_partition.specs.Rows.{size}
use Rattle.tv_spec_boxes.specs.Assignments.{Assignment}

abbrev pub cells_of : Assignment → ℕ
cells_of [] = 0
cells_of (rows ∷ a) = size rows + cells_of a

pub record IsOn (w : Web) (a : Assignment) : Type 0 where
  pub one_each : length a ≡ length (compact w)
  pub few : cells_of a ≤ MOST_CELLS
