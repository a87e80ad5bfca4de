-- What is true of a step along a frontier, as laws: one corner more is one convolution for each state and each choice on the new
-- edges.
--
-- PickedByNumber     == the edges that are picked by number, as the pending ones are, are those that are picked from the list
-- FirstState         == before all corners the one state has 1 at class zero and exponent 0
-- OneStateAtEnds w d == before all corners and after them there is one state, with no choice to make
-- EndStates          == so it is of every web
-- StepOfState        == up to the greatest exponent kept a state's numbers are the sums, over all states before and all choices
--                       on the new edges from which it comes, of the convolutions with the counts of the corner
-- JoinsWithin        == nothing is joined where what the corner sees has a degree over d
-- ClassesStep        == which classes a state has after one corner more
-- WholeClasses       == once all corners are taken, the one state has the classes of the assignments of degree at most d
use Rattle.std.specs.Prelude.{◌≡◌, Contains, ℕ, suc, ◌<◌, ◌↔◌, cond, ◌&&◌, int_le, ℤ, pos, ◌≤ℤ◌, ◌<ℤ◌, List, [], ◌∷◌, map, filter, length, slice_index_or, Bool}
use Rattle.std.specs.Ordering.{int_eq}
use Rattle.tv_spec_plane.specs.declared.records.CompactEdge.{CompactEdge}
use Rattle.tv_spec_plane.specs.Web.{Web, compact, below, no_edge, degree_of}
use Rattle.tv_spec_plane.specs.Graded.{IsGraded}
use Rattle.tv_spec_boxes.specs.Assignments.{Rows, class_of, zeros, same_vector}
use Rattle.tv_spec_boxes.specs.Classes.{IsClass}
use Rattle.tv_spec_boxes.specs.Numbers.{lowest, box_bound}
use Rattle.tv_laws_frontier.specs.Frontier.{state_number, kept_upto}
use Rattle.tv_laws_frontier.specs.Steps.{states, options, near_part, joined, stepped}
use Rattle.tv_laws_frontier.specs.StateClasses.{HasClass, ComesFrom}

abbrev pub PickedByNumber : Type 0
PickedByNumber =
    (w : Web) (p : CompactEdge → Bool) →
    map (λ (k : ℕ). slice_index_or (compact w) k no_edge)
    (filter (λ (k : ℕ). p (slice_index_or (compact w) k no_edge)) (below (length (compact w))))
    ≡ filter p (compact w)

abbrev pub FirstState : Type 0
FirstState =
    (w : Web) (fixed : List Rows) (d : ℕ) (m : ℤ) (v : List ℤ) (i : ℤ) → IsGraded w →
    state_number w fixed d m 0 [] v i
    ≡ cond (same_vector (zeros (length w.points)) v && (int_eq i (pos 0) && int_le (pos 0) m)) 1 0

pub record OneStateAtEnds (w : Web) (d : ℕ) : Type 0 where
  pub before : states w d 0 ≡ [] ∷ []
  pub after : states w d (length w.triangles) ≡ [] ∷ []

abbrev pub EndStates : Type 0
EndStates = (w : Web) (d : ℕ) → OneStateAtEnds w d

abbrev pub StepOfState : Type 0
StepOfState =
    (w : Web) (fixed : List Rows) (d t : ℕ) (k : List Rows) (v : List ℤ) (i n : ℤ) → IsGraded w → degree_of w.heights v ≤ℤ pos d →
    t < length w.triangles → i ≤ℤ kept_upto w fixed d n →
    state_number w fixed d (kept_upto w fixed d n) (suc t) k v i
    ≡ stepped w fixed d (kept_upto w fixed d n) (box_bound n (lowest w fixed d)) t k v i

abbrev pub JoinsWithin : Type 0
JoinsWithin =
    (w : Web) (fixed : List Rows) (d t n : ℕ) (h g : List Rows) (v : List ℤ) (m i : ℤ) → IsGraded w →
    degree_of w.heights v ≤ℤ pos d → t < length w.triangles → Contains (options w d t) g →
    pos d <ℤ degree_of w.heights (class_of w (near_part w t h g)) → joined w fixed d m n t h g v i ≡ 0

abbrev pub ClassesStep : Type 0
ClassesStep =
    (w : Web) (d t : ℕ) (k : List Rows) (v : List ℤ) → IsGraded w → degree_of w.heights v ≤ℤ pos d → t < length w.triangles →
    HasClass w d (suc t) k v ↔ ComesFrom w d t k v

abbrev pub WholeClasses : Type 0
WholeClasses = (w : Web) (d : ℕ) (v : List ℤ) → HasClass w d (length w.triangles) [] v ↔ IsClass w d v
