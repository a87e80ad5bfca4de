-- The choices that are made edge by edge, and the assignments that are still to come.
--
-- Frame                  == an edge with what is left there: of that size the diagrams from that place on are to come, and all
--                           larger ones
-- with_left w es l       == the assignments of the edges es that spend what is left of the class, where one is asked for, and at
--                           most what is left of the degree
-- beside_on w e n l      == what is left beside n cells on the edge
-- with_diagrams w e es l n ds == those with one of the diagrams ds of n cells on e
-- from w e es l n k      == those with diagram number k of n cells on e, or with a later one
-- chosen f               == the diagram before the one that comes next
-- to_come w es fs        == those that are still to come after the choices fs on the first of the edges es
-- coming w fs            == those of the web
-- IsOpen w count f       == a frame of that web, whose size is no more than the degree that is left, below count
-- IsWalk w count fs      == frames of that web, at most one more than its edges
-- IsFurther w count fs gs == the same is to come by fewer steps
-- IsFound w count fs a gs == the assignment a is next, and the rest is to come
use Rattle.std.specs.Prelude.{◌≡◌, ℕ, suc, ◌-◌, ◌*◌, ◌<◌, ◌≤◌, List, [], ◌∷◌, ◌++◌, map, filter, length, drop, cond, nat_le, slice_index_or}
use Rattle.std.specs.List.{AllByRecursion, flat_map, range_with_len}
use Rattle.tv_lemmas.specs.Naturals.{as_natural}
use Rattle.tv_spec_plane.specs.declared.records.CompactEdge.{CompactEdge}
use Rattle.tv_spec_plane.specs.Web.{Web, compact, edge_class, edge_degree}
use Rattle.tv_partition.specs.Rows.{diagrams}
use Rattle.tv_spec_boxes.specs.Assignments.{Rows, Assignment, choices, class_on}
use Rattle.tv_class_assignments.specs.Remaining.{Left, spends, beside}
use Rattle.tv_class_assignments.specs.Steps.{steps}
use Rattle.tv_class_assignments.specs.declared.frame.Frame.{Frame}

unfoldable pub with_left : Web → List CompactEdge → Left → List Assignment
with_left w es l =
    filter (λ a. spends l (class_on w es a)) (choices (map (λ e. as_natural (edge_degree w e)) es) l.degree)

abbrev pub beside_on : Web → CompactEdge → ℕ → Left → Left
beside_on w e n l = beside n (as_natural (edge_degree w e)) (edge_class w e) l

unfoldable pub with_diagrams : Web → CompactEdge → List CompactEdge → Left → ℕ → List Rows → List Assignment
with_diagrams w e es l n ds =
    cond (nat_le (n * as_natural (edge_degree w e)) l.degree)
    (flat_map (λ rows. map (λ a. rows ∷ a) (with_left w es (beside_on w e n l))) ds)
    []

unfoldable pub from : Web → CompactEdge → List CompactEdge → Left → ℕ → ℕ → List Assignment
from w e es l n k =
    with_diagrams w e es l n (drop k (diagrams n))
    ++ flat_map (λ m. with_diagrams w e es l m (diagrams m)) (range_with_len (suc n) (l.degree - n))

abbrev pub chosen : Frame → Rows
chosen f = slice_index_or (diagrams f.size) (f.place - 1) []

abbrev pub to_come : Web → List CompactEdge → List Frame → List Assignment
to_come w es [] = []
to_come w [] (f ∷ fs) = with_left w [] f.left
to_come w (e ∷ es) (f ∷ fs) = map (λ a. chosen f ∷ a) (to_come w es fs) ++ from w e es f.left f.size f.place

abbrev pub coming : Web → List Frame → List Assignment
coming w fs = to_come w (compact w) fs

pub record IsOpen (w : Web) (count : ℕ) (f : Frame) : Type 0 where
  pub asked : length f.left.class ≤ length w.points
  pub size : f.size ≤ f.left.degree
  pub listed : f.left.degree < count

pub record IsWalk (w : Web) (count : ℕ) (fs : List Frame) : Type 0 where
  pub few : length fs ≤ suc (length (compact w))
  pub frames : AllByRecursion (IsOpen w count) fs

pub record IsFurther (w : Web) (count : ℕ) (fs gs : List Frame) : Type 0 where
  pub valid : IsWalk w count gs
  pub same : coming w gs ≡ coming w fs
  pub fewer : steps count (length (compact w)) gs < steps count (length (compact w)) fs

pub record IsFound (w : Web) (count : ℕ) (fs : List Frame) (a : Assignment) (gs : List Frame) : Type 0 where
  pub valid : IsWalk w count gs
  pub next : coming w fs ≡ a ∷ coming w gs
