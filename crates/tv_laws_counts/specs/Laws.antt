-- What is true of the number of configurations and of its bounds, as laws.
--
-- FillingsCounted       == the fillings are as many as the convolution of the counts of the corners says
-- ConfigurationsCounted == so are the configurations with one assignment and Euler characteristic
-- SignedCountIs         == the signed count is the sum of the coefficients of the assignments of the class
-- AssignmentsByDegree   == the assignments of a class are those of that class among all of degree at most d
-- AssignmentsListed     == what each listed assignment of degree at most d has
-- CrowdOfClass          == the configurations of a class and an Euler characteristic up to n are at most the crowd
-- CrowdOfFront          == so are the ways to split up to that many boxes over the first corners of one assignment
-- CrowdOfCorner         == so is each count of one of its corners up to that many boxes
-- BoxesWithin           == the boxes left up to n are at most the bound
-- StartsAbove           == no listed assignment starts below the lowest
-- NoneBelowStart        == below its start an assignment has the coefficient 0
-- WaysSwap              == the order of the corners doesn't count
-- WaysLast              == a further corner at the end is one more convolution
use Rattle.std.specs.Prelude.{◌≡◌, Contains, ℕ, ◌≤◌, ℤ, pos, ◌≤ℤ◌, ◌<ℤ◌, List, [], ◌∷◌, ◌++◌, filter, length, take}
use Rattle.std.specs.List.{AllByRecursion}
use Rattle.tv_lemmas.specs.Sums.{total, sum_of}
use Rattle.tv_spec_plane.specs.Web.{Web, degree_of}
use Rattle.tv_partition.specs.Rows.{IsDiagram}
use Rattle.tv_cells.specs.declared.legs.Legs.{Legs}
use Rattle.tv_cells.specs.Extras.{AreDiagrams, count}
use Rattle.tv_spec_boxes.specs.Assignments.{Rows, Assignment, all_legs, class_of, assignments, assignments_of, same_vector}
use Rattle.tv_spec_boxes.specs.Configurations.{fillings, boxes_left, configurations_on, signed_count}
use Rattle.tv_spec_boxes.specs.Numbers.{lowest, box_bound, crowd}
use Rattle.tv_spec_plane.specs.Graded.{IsGraded}
use Rattle.tv_laws_counts.specs.Ways.{convolved, ways, corner_ways, ways_at, start_of, assignment_coefficient, IsListed}

abbrev pub FillingsCounted : Type 0
FillingsCounted = (legs : List Legs) (side n : ℕ) → AllByRecursion AreDiagrams legs → n ≤ side → length (fillings legs side n) ≡ corner_ways legs n

abbrev pub ConfigurationsCounted : Type 0
ConfigurationsCounted = (w : Web) (fixed : List Rows) (a : Assignment) (n : ℤ) → AllByRecursion IsDiagram fixed
    → AllByRecursion IsDiagram a → length (configurations_on w fixed a n) ≡ ways_at (all_legs w a fixed) (boxes_left w fixed a n)

abbrev pub SignedCountIs : Type 0
SignedCountIs = (w : Web) (fixed : List Rows) (v : List ℤ) (n : ℤ) → AllByRecursion IsDiagram fixed
    → signed_count w fixed v n ≡ total (λ a. assignment_coefficient w fixed a n) (assignments_of w v)

abbrev pub AssignmentsByDegree : Type 0
AssignmentsByDegree = (w : Web) (d : ℕ) (v : List ℤ) → IsGraded w → degree_of w.heights v ≤ℤ pos d
    → assignments_of w v ≡ filter (λ a. same_vector (class_of w a) v) (assignments w d)

abbrev pub AssignmentsListed : Type 0
AssignmentsListed = (w : Web) (d : ℕ) → IsGraded w → AllByRecursion (IsListed w d) (assignments w d)

abbrev pub CrowdOfClass : Type 0
CrowdOfClass = (w : Web) (fixed : List Rows) (d : ℕ) (v : List ℤ) (i n : ℤ) → IsGraded w → AllByRecursion IsDiagram fixed
    → pos 0 ≤ℤ degree_of w.heights v → degree_of w.heights v ≤ℤ pos d → i ≤ℤ n
    → sum_of (λ a. ways_at (all_legs w a fixed) (boxes_left w fixed a i)) (assignments_of w v) ≤ crowd w fixed d n v

abbrev pub CrowdOfFront : Type 0
CrowdOfFront = (w : Web) (fixed : List Rows) (d : ℕ) (a : Assignment) (n : ℤ) (k m : ℕ) → IsGraded w
    → AllByRecursion IsDiagram fixed → Contains (assignments w d) a → m ≤ box_bound n (lowest w fixed d)
    → corner_ways (take k (all_legs w a fixed)) m ≤ crowd w fixed d n (class_of w a)

abbrev pub CrowdOfCorner : Type 0
CrowdOfCorner = (w : Web) (fixed : List Rows) (d : ℕ) (a : Assignment) (n : ℤ) (legs : Legs) (m : ℕ) → IsGraded w
    → AllByRecursion IsDiagram fixed → Contains (assignments w d) a → Contains (all_legs w a fixed) legs
    → m ≤ box_bound n (lowest w fixed d) → count legs m ≤ crowd w fixed d n (class_of w a)

abbrev pub BoxesWithin : Type 0
BoxesWithin = (w : Web) (fixed : List Rows) (d : ℕ) (a : Assignment) (i n : ℤ) → Contains (assignments w d) a → i ≤ℤ n
    → boxes_left w fixed a i ≤ℤ pos (box_bound n (lowest w fixed d))

abbrev pub StartsAbove : Type 0
StartsAbove = (w : Web) (fixed : List Rows) (d : ℕ) (a : Assignment) → Contains (assignments w d) a → lowest w fixed d ≤ℤ start_of w fixed a

abbrev pub NoneBelowStart : Type 0
NoneBelowStart = (w : Web) (fixed : List Rows) (a : Assignment) (n : ℤ) → n <ℤ start_of w fixed a → assignment_coefficient w fixed a n ≡ pos 0

abbrev pub WaysSwap : Type 0
WaysSwap = (b c : ℕ → ℕ) (cs : List (ℕ → ℕ)) (n : ℕ) → ways (b ∷ c ∷ cs) n ≡ ways (c ∷ b ∷ cs) n

abbrev pub WaysLast : Type 0
WaysLast = (cs : List (ℕ → ℕ)) (c : ℕ → ℕ) (n : ℕ) → ways (cs ++ c ∷ []) n ≡ convolved (ways cs) c n
