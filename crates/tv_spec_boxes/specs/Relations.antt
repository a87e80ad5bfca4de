-- What assignments and configurations are, said without a list of them.
--
-- spent_by w e d      == the degree of an edge with its diagram: size times degree
-- IsAssignment w d a  == a diagram for each compact edge, of degree at most d together
-- AreExtras legs cells == a set of extras of a corner, written in the order of cells: none is in a leg, and with the legs
--                        they are closed downwards
-- AreAtCorners legs sets == such a set for each corner
-- IsConfiguration w fixed v n c == a diagram for each compact edge, of class v together, and a set of extras at each corner,
--                        of Euler characteristic n
use Rattle.std.specs.Prelude.{◌≡◌, ℕ, ℤ, pos, ◌*ℤ◌, ◌≤ℤ◌, List, [], ◌∷◌, length, true, ⊤}
use Rattle.std.specs.List.{AllByRecursion}
use Rattle.tv_spec_plane.specs.declared.records.CompactEdge.{CompactEdge}
use Rattle.tv_spec_plane.specs.Web.{Web, compact, edge_degree}
use Rattle.tv_partition.specs.Rows.{IsDiagram, size}
use Rattle.tv_cells.specs.declared.cell.Cell.{Cell}
use Rattle.tv_cells.specs.declared.legs.Legs.{Legs}
use Rattle.tv_cells.specs.Cells.{rises}
use Rattle.tv_cells.specs.Extras.{IsExtras}
use Rattle.tv_spec_boxes.specs.Assignments.{Rows, Assignment, sum_on, class_of, all_legs}
use Rattle.tv_spec_boxes.specs.Configurations.{Configuration, chi_of}

abbrev pub spent_by : Web → CompactEdge → Rows → ℤ
spent_by w e d = pos (size d) *ℤ edge_degree w e

pub record IsAssignment (w : Web) (d : ℕ) (a : Assignment) : Type 0 where
  pub one_each : length a ≡ length (compact w)
  pub diagrams : AllByRecursion IsDiagram a
  pub degree : sum_on (spent_by w) (compact w) a ≤ℤ pos d

pub record AreExtras (legs : Legs) (cells : List Cell) : Type 0 where
  pub order : rises cells ≡ true
  pub extras : IsExtras legs cells

abbrev pub AreAtCorners : List Legs → List (List Cell) → Type 0
AreAtCorners [] [] = ⊤
AreAtCorners [] (cells ∷ sets) = ⊥
AreAtCorners (legs ∷ rest) [] = ⊥
AreAtCorners (legs ∷ rest) (cells ∷ sets) = AreExtras legs cells × AreAtCorners rest sets

pub record IsConfiguration (w : Web) (fixed : List Rows) (v : List ℤ) (n : ℤ) (c : Configuration) : Type 0 where
  pub one_each : length c.diagrams ≡ length (compact w)
  pub diagrams : AllByRecursion IsDiagram c.diagrams
  pub class : class_of w c.diagrams ≡ v
  pub extras : AreAtCorners (all_legs w c.diagrams fixed) c.extras
  pub chi : chi_of w fixed c ≡ n
