-- The lists of assignments and of configurations have exactly what the relations say, each once, as laws.
--
-- AssignmentsAreAll    == of a graded web, the listed assignments are those with a diagram for each edge and a degree up to d
-- AssignmentsOnce      == no two places of the list have the same assignment
-- same_configuration   == the two configurations are equal
-- ConfigurationsAreAll == of a graded web with diagrams on its open edges, the listed configurations of class v and Euler
--                         characteristic n are those with a diagram for each edge and a set of extras at each corner
-- ConfigurationsOnce   == no two places of the list have the same configuration
use Rattle.std.specs.Prelude.{Contains, ℕ, ℤ, List, Bool, ◌&&◌, nat_eq, ◌↔◌}
use Rattle.std.specs.List.{AllByRecursion, IsDistinct}
use Rattle.std.specs.Cmp.Lexicographic.{pointwise}
use Rattle.tv_spec_plane.specs.Web.{Web}
use Rattle.tv_spec_plane.specs.Graded.{IsGraded}
use Rattle.tv_partition.specs.Rows.{IsDiagram}
use Rattle.tv_cells.specs.Cells.{same}
use Rattle.tv_spec_boxes.specs.Assignments.{Rows, Assignment, assignments}
use Rattle.tv_spec_boxes.specs.Configurations.{Configuration, configurations}
use Rattle.tv_spec_boxes.specs.Relations.{IsAssignment, IsConfiguration}

abbrev pub AssignmentsAreAll : Type 0
AssignmentsAreAll = (w : Web) (d : ℕ) (a : Assignment) → IsGraded w → Contains (assignments w d) a ↔ IsAssignment w d a

abbrev pub AssignmentsOnce : Type 0
AssignmentsOnce = (w : Web) (d : ℕ) → IsDistinct (pointwise (pointwise nat_eq)) (assignments w d)

abbrev pub same_configuration : Configuration → Configuration → Bool
same_configuration c d = pointwise (pointwise nat_eq) c.diagrams d.diagrams && pointwise (pointwise same) c.extras d.extras

abbrev pub ConfigurationsAreAll : Type 0
ConfigurationsAreAll =
    (w : Web) (fixed : List Rows) (v : List ℤ) (n : ℤ) (c : Configuration) → IsGraded w → AllByRecursion IsDiagram fixed →
    Contains (configurations w fixed v n) c ↔ IsConfiguration w fixed v n c

abbrev pub ConfigurationsOnce : Type 0
ConfigurationsOnce = (w : Web) (fixed : List Rows) (v : List ℤ) (n : ℤ) → IsDistinct same_configuration (configurations w fixed v n)
