-- In how many ways boxes are split over corners, and what one assignment adds to the signed count.
--
-- split c f n i       == the ways with i of n boxes at the first corner: c i there, f (n - i) at the others
-- convolved c f n        == the convolution of c and f at n, a sum over the n + 1 numbers of boxes at the first corner
-- ways cs n           == the convolution of the counts cs at n: the ways to split n boxes over corners with these counts
-- corner_ways legs n  == the same of the counts of these corners
-- ways_at legs z      == the same at a whole number; 0 below 0
-- start_of w fixed a  == the Euler characteristic of the assignment without boxes, the least that it has
-- assignment_sign w a n == (-1)^(n + s), with s the sum of the normal degree at a times the size
-- assignment_coefficient w fixed a n == that sign times the number of ways that the boxes left are split
-- IsAtMost d rows     == the rows are a diagram of at most d cells
-- IsListed w d a      == a has one such for each compact edge, and a class of an entry for each point and a degree up to d
use Rattle.std.specs.Prelude.{◌≡◌, ℕ, suc, ◌-◌, ◌*◌, ◌≤◌, ℤ, pos, negsuc, ◌+ℤ◌, ◌-ℤ◌, ◌*ℤ◌, ◌≤ℤ◌, List, [], ◌∷◌, map, length, cond, nat_eq}
use Rattle.std.specs.List.{AllByRecursion}
use Rattle.tv_ring.specs.Sums.{total_below}
use Rattle.tv_spec_plane.specs.Web.{Web, compact, degree_of, sign}
use Rattle.tv_partition.specs.Rows.{IsDiagram, size}
use Rattle.tv_cells.specs.declared.legs.Legs.{Legs}
use Rattle.tv_cells.specs.Extras.{count}
use Rattle.tv_spec_boxes.specs.Assignments.{Rows, Assignment, all_legs, class_of, edge_costs, edge_twist, overlaps_of}
use Rattle.tv_spec_boxes.specs.Configurations.{boxes_left}

unfoldable pub split : (ℕ → ℕ) → (ℕ → ℕ) → ℕ → ℕ → ℕ
split c f n i = c i * f (n - i)

unfoldable pub convolved : (ℕ → ℕ) → (ℕ → ℕ) → ℕ → ℕ
convolved c f n = total_below (split c f n) (suc n)

unfoldable pub ways : List (ℕ → ℕ) → ℕ → ℕ
ways [] n = cond (nat_eq n 0) 1 0
ways (c ∷ cs) n = convolved c (ways cs) n

abbrev pub corner_ways : List Legs → ℕ → ℕ
corner_ways legs n = ways (map count legs) n

abbrev pub ways_at : List Legs → ℤ → ℕ
ways_at legs (pos n) = corner_ways legs n
ways_at legs (negsuc n) = 0

abbrev pub start_of : Web → List Rows → Assignment → ℤ
start_of w fixed a = edge_costs w a -ℤ pos (overlaps_of (all_legs w a fixed))

abbrev pub assignment_sign : Web → Assignment → ℤ → ℤ
assignment_sign w a n = sign (n +ℤ edge_twist w a)

unfoldable pub assignment_coefficient : Web → List Rows → Assignment → ℤ → ℤ
assignment_coefficient w fixed a n = assignment_sign w a n *ℤ pos (ways_at (all_legs w a fixed) (boxes_left w fixed a n))

abbrev pub IsAtMost : ℕ → Rows → Type 0
IsAtMost d rows = IsDiagram rows × (size rows ≤ d)

pub record IsListed (w : Web) (d : ℕ) (a : Assignment) : Type 0 where
  pub one_each : length a ≡ length (compact w)
  pub diagrams : AllByRecursion (IsAtMost d) a
  pub entries : length (class_of w a) ≡ length w.points
  pub least : pos 0 ≤ℤ degree_of w.heights (class_of w a)
  pub most : degree_of w.heights (class_of w a) ≤ℤ pos d
