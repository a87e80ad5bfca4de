-- What is true of states along a frontier, as laws: they hold the partial configurations that are kept, through n all of them,
-- and in the end the signed counts.
--
-- KeptIsTold     == the test of what is kept is the relation
-- KeptOnes       == a state's numbers are those of the partial configurations that are kept, whatever m is
-- KeptOnesSigned == and its signed sums are theirs
-- ThroughAreKept == through n every partial configuration is kept
-- KeptAreAll     == and of one assignment all ways are
-- KeptAreCounted == so through n a state's numbers are those of the partial configurations of its choice
-- KeptArePartial == and its signed sums are the partial sums, with all open edges empty
-- WholeIsState   == once all corners are taken, the one state has the signed counts through n, whatever the open edges have
-- SignOfState    == a state's signed sums are its numbers, with the sign of class and exponent
use Rattle.std.specs.Prelude.{◌≡◌, Contains, ℕ, ◌≤◌, ◌↔◌, true, ℤ, pos, ◌-ℤ◌, ◌*ℤ◌, ◌≤ℤ◌, List, [], filter, length, take}
use Rattle.std.specs.List.{AllByRecursion}
use Rattle.tv_lemmas.specs.Sums.{total}
use Rattle.tv_spec_plane.specs.Web.{Web, compact, degree_of, class_sign}
use Rattle.tv_spec_plane.specs.Graded.{IsGraded}
use Rattle.tv_partition.specs.Rows.{IsDiagram}
use Rattle.tv_spec_boxes.specs.Assignments.{Rows, Assignment, all_legs, no_legs, assignments, same_choice}
use Rattle.tv_spec_boxes.specs.Configurations.{Configuration, signed_count}
use Rattle.tv_spec_partial.specs.Partial.{chosen, partial_configurations, partial_sign, partial_count}
use Rattle.tv_laws_edges.specs.Rule.{HasEdgeRule}
use Rattle.tv_laws_counts.specs.Ways.{ways_at}
use Rattle.tv_laws_frontier.specs.Frontier.{start_after, kept_at, state_number, state_sum, kept_upto}
use Rattle.tv_laws_frontier.specs.Kept.{IsKept, is_kept, kept_configurations}

abbrev pub KeptIsTold : Type 0
KeptIsTold = (w : Web) (m : ℤ) (t : ℕ) (c : Configuration) → (is_kept w m t c ≡ true) ↔ IsKept w m t c

abbrev pub KeptOnes : Type 0
KeptOnes =
    (w : Web) (d : ℕ) (m : ℤ) (t : ℕ) (k : List Rows) (v : List ℤ) (i : ℤ) → IsGraded w → degree_of w.heights v ≤ℤ pos d →
    t ≤ length w.triangles → state_number w (no_legs w) d m t k v i ≡ length (kept_configurations w m t k v i)

abbrev pub KeptOnesSigned : Type 0
KeptOnesSigned =
    (w : Web) (d : ℕ) (m : ℤ) (t : ℕ) (k : List Rows) (v : List ℤ) (i : ℤ) → IsGraded w → degree_of w.heights v ≤ℤ pos d →
    t ≤ length w.triangles →
    state_sum w (no_legs w) d m t k v i ≡ total (partial_sign w t) (kept_configurations w m t k v i)

abbrev pub ThroughAreKept : Type 0
ThroughAreKept =
    (w : Web) (d t : ℕ) (k : List Rows) (v : List ℤ) (i n : ℤ) → IsGraded w → degree_of w.heights v ≤ℤ pos d →
    t ≤ length w.triangles → i ≤ℤ n →
    kept_configurations w (kept_upto w (no_legs w) d n) t k v i
    ≡ filter (λ (c : Configuration). same_choice (chosen t (compact w) c.diagrams) k) (partial_configurations w t v i)

abbrev pub KeptAreAll : Type 0
KeptAreAll =
    (w : Web) (fixed : List Rows) (d t : ℕ) (a : Assignment) (i n : ℤ) → Contains (assignments w d) a → t ≤ length w.triangles →
    i ≤ℤ n →
    kept_at w fixed (kept_upto w fixed d n) t a i ≡ ways_at (take t (all_legs w a fixed)) (i -ℤ start_after w fixed t a)

abbrev pub KeptAreCounted : Type 0
KeptAreCounted =
    (w : Web) (d t : ℕ) (k : List Rows) (v : List ℤ) (i n : ℤ) → IsGraded w → degree_of w.heights v ≤ℤ pos d →
    t ≤ length w.triangles → i ≤ℤ n →
    state_number w (no_legs w) d (kept_upto w (no_legs w) d n) t k v i
    ≡ length (filter (λ (c : Configuration). same_choice (chosen t (compact w) c.diagrams) k) (partial_configurations w t v i))

abbrev pub KeptArePartial : Type 0
KeptArePartial =
    (w : Web) (d t : ℕ) (k : List Rows) (v : List ℤ) (i n : ℤ) → IsGraded w → degree_of w.heights v ≤ℤ pos d →
    t ≤ length w.triangles → i ≤ℤ n →
    state_sum w (no_legs w) d (kept_upto w (no_legs w) d n) t k v i ≡ partial_count w t k v i

abbrev pub WholeIsState : Type 0
WholeIsState =
    (w : Web) (fixed : List Rows) (d : ℕ) (v : List ℤ) (i n : ℤ) → IsGraded w → AllByRecursion IsDiagram fixed →
    degree_of w.heights v ≤ℤ pos d → i ≤ℤ n →
    state_sum w fixed d (kept_upto w fixed d n) (length w.triangles) [] v i ≡ signed_count w fixed v i

abbrev pub SignOfState : Type 0
SignOfState =
    (w : Web) (fixed : List Rows) (d : ℕ) (m : ℤ) (t : ℕ) (k : List Rows) (v : List ℤ) (i : ℤ) → HasEdgeRule w →
    state_sum w fixed d m t k v i ≡ class_sign w.points v i *ℤ pos (state_number w fixed d m t k v i)
