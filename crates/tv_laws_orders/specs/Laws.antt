-- The lists are in their orders, as laws, and no other list in order has the same members.
--
-- DiagramsInOrder       == the diagrams of a size are in order
-- ExtrasInOrder         == the sets of i extras of a corner are in order
-- HasLeast s t          == a cell is in s and not in t, and of the cells before it s and t have the same
-- SetsByLeastCell       == of two sets with as many cells, each in the order of cells, s comes before t exactly if so
-- AssignmentsInOrder    == the assignments of degree at most d are in order
-- AssignmentsOfInOrder  == so are the assignments of a class
-- ConfigurationsInOrder == so are the configurations of a class and an Euler characteristic
-- OrdersAreStrict       == in none of the orders do two come before one another
-- OrderTellsList before == two lists in that order that have the same members are equal
-- OrdersTellLists       == so it is in each of the orders
-- DiagramsTold          == a list in order of exactly the diagrams of n cells is the one listed
-- AssignmentsTold       == of a graded web, a list in order of exactly the assignments of degree at most d is the one listed
-- ConfigurationsTold    == of a graded web with diagrams on its open edges, so is a list in order of exactly the
--                          configurations of class v and Euler characteristic n
use Rattle.std.specs.Prelude.{◌≡◌, Contains, ℕ, ℤ, Bool, true, false, List, length, ◌↔◌}
use Rattle.std.specs.List.{AllByRecursion, list_any}
use Rattle.tv_spec_plane.specs.Web.{Web}
use Rattle.tv_spec_plane.specs.Graded.{IsGraded}
use Rattle.tv_partition.specs.Rows.{IsDiagram, size, diagrams}
use Rattle.tv_cells.specs.declared.cell.Cell.{Cell}
use Rattle.tv_cells.specs.declared.legs.Legs.{Legs}
use Rattle.tv_cells.specs.Cells.{same, precedes, rises}
use Rattle.tv_spec_boxes.specs.Assignments.{Rows, Assignment, assignments, assignments_of}
use Rattle.tv_spec_boxes.specs.Configurations.{Configuration, extras_of, configurations}
use Rattle.tv_spec_boxes.specs.Relations.{IsAssignment, IsConfiguration}
use Rattle.tv_laws_orders.specs.Orders.{diagram_before, set_before, assignment_before, configuration_before, IsInOrder, IsStrict}

abbrev pub DiagramsInOrder : Type 0
DiagramsInOrder = (n : ℕ) → IsInOrder diagram_before (diagrams n)

abbrev pub ExtrasInOrder : Type 0
ExtrasInOrder = (legs : Legs) (side i : ℕ) → IsInOrder set_before (extras_of legs side i)

pub record HasLeast (s t : List Cell) : Type 0 where
  pub least : Cell
  pub inside : list_any (same least) s ≡ true
  pub outside : list_any (same least) t ≡ false
  pub alike : (d : Cell) → precedes d least ≡ true → list_any (same d) s ≡ list_any (same d) t

abbrev pub SetsByLeastCell : Type 0
SetsByLeastCell =
    (s t : List Cell) → rises s ≡ true → rises t ≡ true → length s ≡ length t → (set_before s t ≡ true) ↔ HasLeast s t

abbrev pub AssignmentsInOrder : Type 0
AssignmentsInOrder = (w : Web) (d : ℕ) → IsInOrder assignment_before (assignments w d)

abbrev pub AssignmentsOfInOrder : Type 0
AssignmentsOfInOrder = (w : Web) (v : List ℤ) → IsInOrder assignment_before (assignments_of w v)

abbrev pub ConfigurationsInOrder : Type 0
ConfigurationsInOrder =
    (w : Web) (fixed : List Rows) (v : List ℤ) (n : ℤ) → IsInOrder configuration_before (configurations w fixed v n)

pub record OrdersAreStrict : Type 0 where
  pub diagrams : IsStrict diagram_before
  pub extras : IsStrict set_before
  pub assignments : IsStrict assignment_before
  pub configurations : IsStrict configuration_before

abbrev pub OrderTellsList : {A : Type 0} → (A → A → Bool) → Type 0
OrderTellsList {A} before =
    (xs ys : List A) → IsInOrder before xs → IsInOrder before ys → ((x : A) → Contains xs x ↔ Contains ys x) → xs ≡ ys

pub record OrdersTellLists : Type 0 where
  pub diagrams : OrderTellsList diagram_before
  pub extras : OrderTellsList set_before
  pub assignments : OrderTellsList assignment_before
  pub configurations : OrderTellsList configuration_before

abbrev pub DiagramsTold : Type 0
DiagramsTold =
    (n : ℕ) (xs : List Rows) → IsInOrder diagram_before xs →
    ((rows : Rows) → Contains xs rows ↔ (IsDiagram rows × (size rows ≡ n))) → xs ≡ diagrams n

abbrev pub AssignmentsTold : Type 0
AssignmentsTold =
    (w : Web) (d : ℕ) (xs : List Assignment) → IsGraded w → IsInOrder assignment_before xs →
    ((a : Assignment) → Contains xs a ↔ IsAssignment w d a) → xs ≡ assignments w d

abbrev pub ConfigurationsTold : Type 0
ConfigurationsTold =
    (w : Web) (fixed : List Rows) (v : List ℤ) (n : ℤ) (xs : List Configuration) → IsGraded w → AllByRecursion IsDiagram fixed →
    IsInOrder configuration_before xs → ((c : Configuration) → Contains xs c ↔ IsConfiguration w fixed v n c) →
    xs ≡ configurations w fixed v n
