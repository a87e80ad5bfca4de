-- What bounds a state, as laws.
--
-- StateWithin  == below the lowest, and beyond m, a state has nothing
-- CrowdOfState == each number of a state, also beyond n, is at most the crowd of its class
-- CrowdOfJoin  == so is each join, of the class into which it goes
-- CrowdOfNear  == and each count of the corner that it reads, of the class of what the corner sees
use Rattle.std.specs.Prelude.{◌≡◌, ◌⊎◌, Contains, ℕ, ◌<◌, ◌≤◌, ℤ, pos, ◌≤ℤ◌, ◌<ℤ◌, List, length}
use Rattle.std.specs.List.{AllByRecursion}
use Rattle.tv_spec_plane.specs.Web.{Web, degree_of}
use Rattle.tv_spec_plane.specs.Graded.{IsGraded}
use Rattle.tv_cells.specs.Extras.{count}
use Rattle.tv_partition.specs.Rows.{IsDiagram}
use Rattle.tv_spec_boxes.specs.Assignments.{Rows, class_of}
use Rattle.tv_spec_boxes.specs.Numbers.{lowest, box_bound, crowd}
use Rattle.tv_laws_frontier.specs.Frontier.{state_number, kept_upto}
use Rattle.tv_laws_frontier.specs.Steps.{states, options, near_part, near_legs, joined}

abbrev pub StateWithin : Type 0
StateWithin =
    (w : Web) (fixed : List Rows) (d : ℕ) (m : ℤ) (t : ℕ) (k : List Rows) (v : List ℤ) (i : ℤ) →
    (m <ℤ i) ⊎ (i <ℤ lowest w fixed d) → state_number w fixed d m t k v i ≡ 0

abbrev pub CrowdOfState : Type 0
CrowdOfState =
    (w : Web) (fixed : List Rows) (d t : ℕ) (k : List Rows) (v : List ℤ) (i n : ℤ) → IsGraded w → AllByRecursion IsDiagram fixed →
    t ≤ length w.triangles → i ≤ℤ kept_upto w fixed d n →
    state_number w fixed d (kept_upto w fixed d n) t k v i ≤ crowd w fixed d n v

abbrev pub CrowdOfJoin : Type 0
CrowdOfJoin =
    (w : Web) (fixed : List Rows) (d t : ℕ) (h g : List Rows) (v : List ℤ) (i n : ℤ) → IsGraded w →
    AllByRecursion IsDiagram fixed → degree_of w.heights v ≤ℤ pos d → t < length w.triangles →
    i ≤ℤ kept_upto w fixed d n → Contains (states w d t) h → Contains (options w d t) g →
    joined w fixed d (kept_upto w fixed d n) (box_bound n (lowest w fixed d)) t h g v i ≤ crowd w fixed d n v

abbrev pub CrowdOfNear : Type 0
CrowdOfNear =
    (w : Web) (fixed : List Rows) (d t : ℕ) (h g : List Rows) (n : ℤ) (j : ℕ) → IsGraded w → AllByRecursion IsDiagram fixed →
    t < length w.triangles → Contains (states w d t) h → Contains (options w d t) g →
    degree_of w.heights (class_of w (near_part w t h g)) ≤ℤ pos d → j ≤ box_bound n (lowest w fixed d) →
    count (near_legs w fixed t h g) j ≤ crowd w fixed d n (class_of w (near_part w t h g))
