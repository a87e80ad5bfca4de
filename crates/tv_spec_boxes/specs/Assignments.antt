-- A diagram for each compact edge, and what it adds to class and Euler characteristic.
--
-- Rows               == a diagram by its rows
-- Assignment         == a diagram for each compact edge, in the order of edges
-- fixed              == a diagram for each open edge, in their order; a file gives each the empty one
-- no_legs w          == the empty diagram for each open edge
-- rows_at a fixed e  == the diagram of an edge, compact or open
-- legs_of a fixed c  == the three legs of a corner
-- all_legs w a fixed == the legs of each corner, in the order of corners
-- zeros n            == n zeros
-- times n v          == the whole multiple of a vector
-- class_difference u v == u - v entry by entry, of vectors of equal length
-- over_edges add none f es a == the sum of f over the edges with their diagrams, by that addition and its zero
-- sum_on f es a      == so of whole numbers
-- class_by w e d     == the class of an edge with its diagram: size times class
-- class_on, class_of w a == the sum over these edges, over the compact edges, of their classes
-- cost_by, edge_costs w a == the edge cost of the diagram on an edge, and the sum over the compact edges
-- twist_by, edge_twist w a == the normal degree at a times the size, and the sum over the compact edges
-- overlaps_of legs   == the sum of the overlap costs of the corners
-- choices gs d       == one diagram for each degree, sizes times degrees adding up to at most d; of two diagrams the one of
--                       fewer cells first, then the one with the greater row first
-- assignments w d    == the assignments of degree at most d, each once, in order, by the diagrams in the order of edges:
--                       of a web in which every compact edge has a degree of at least 1
-- same_rows, same_choice == two diagrams, or two lists of diagrams, are equal
-- same_vector u v    == the two vectors are equal
-- assignments_of w v == the assignments of class v, of such a web
use Rattle.std.specs.Prelude.{ℕ, zero, suc, ◌-◌, ◌*◌, ℤ, pos, ◌+ℤ◌, ◌-ℤ◌, ◌*ℤ◌, List, [], ◌∷◌, map, filter, length, slice_index_or, Bool, nat_eq, nat_le}
use Rattle.std.specs.Ordering.{int_eq}
use Rattle.std.specs.Cmp.Lexicographic.{pointwise}
use Rattle.std.specs.List.{flat_map}
use Rattle.tv_lemmas.specs.Naturals.{as_natural}
use Rattle.tv_lemmas.specs.Sums.{sum_of}
pub use Rattle.tv_lemmas.specs.Sums.{plus}
use Rattle.tv_spec_plane.specs.declared.records.CompactEdge.{CompactEdge}
use Rattle.tv_spec_plane.specs.declared.records.OuterEdge.{OuterEdge}
use Rattle.tv_spec_plane.specs.declared.records.EdgeRef.{EdgeRef}
use Rattle.tv_spec_plane.specs.declared.records.EdgeRef.TheVariants.{Compact, Outer}
use Rattle.tv_spec_plane.specs.declared.records.Corner.{Corner}
use Rattle.tv_spec_plane.specs.Web.{Web, compact, outer, corners, below, normal_a, normal_b, edge_class, edge_degree, degree_of}
use Rattle.tv_partition.specs.Rows.{diagrams, size}
use Rattle.tv_cells.specs.declared.legs.Legs.{Legs}
use Rattle.tv_cells.specs.Costs.{edge_cost, overlap_cost}

abbrev pub Rows : Type 0
Rows = List ℕ

abbrev pub Assignment : Type 0
Assignment = List Rows

abbrev pub no_legs : Web → List Rows
no_legs w = map (λ (e : OuterEdge). []) (outer w)

abbrev pub rows_at : Assignment → List Rows → EdgeRef → Rows
rows_at a fixed (Compact k) = slice_index_or a k []
rows_at a fixed (Outer k) = slice_index_or fixed k []

abbrev pub legs_of : Assignment → List Rows → Corner → Legs
legs_of a fixed c = record {
  along_x = rows_at a fixed c.along_x;
  along_y = rows_at a fixed c.along_y;
  along_z = rows_at a fixed c.along_z;
}

abbrev pub all_legs : Web → Assignment → List Rows → List Legs
all_legs w a fixed = map (legs_of a fixed) (corners w)

abbrev pub zeros : ℕ → List ℤ
zeros zero = []
zeros (suc n) = pos 0 ∷ zeros n

abbrev pub times : ℕ → List ℤ → List ℤ
times n v = map (λ x. pos n *ℤ x) v

abbrev pub class_difference : List ℤ → List ℤ → List ℤ
class_difference [] v = []
class_difference (x ∷ u) [] = x ∷ u
class_difference (x ∷ u) (y ∷ v) = (x -ℤ y) ∷ class_difference u v

-- one fold for sums of numbers and of vectors, each with its own addition and zero
abbrev pub over_edges : {B : Type 0} → (B → B → B) → B → (CompactEdge → Rows → B)
    → List CompactEdge → Assignment → B
over_edges add none f (e ∷ es) (d ∷ a) = add (f e d) (over_edges add none f es a)
over_edges add none f _ _ = none

abbrev pub sum_on : (CompactEdge → Rows → ℤ) → List CompactEdge → Assignment → ℤ
sum_on f es a = over_edges ◌+ℤ◌ (pos 0) f es a

abbrev pub class_by : Web → CompactEdge → Rows → List ℤ
class_by w e d = times (size d) (edge_class w e)

abbrev pub class_on : Web → List CompactEdge → Assignment → List ℤ
class_on w es a = over_edges plus (zeros (length w.points)) (class_by w) es a

abbrev pub class_of : Web → Assignment → List ℤ
class_of w a = class_on w (compact w) a

abbrev pub cost_by : Web → CompactEdge → Rows → ℤ
cost_by w e d = edge_cost d (normal_a w e) (normal_b w e)

abbrev pub edge_costs : Web → Assignment → ℤ
edge_costs w a = sum_on (cost_by w) (compact w) a

abbrev pub twist_by : Web → CompactEdge → Rows → ℤ
twist_by w e d = normal_a w e *ℤ pos (size d)

abbrev pub edge_twist : Web → Assignment → ℤ
edge_twist w a = sum_on (twist_by w) (compact w) a

abbrev pub overlaps_of : List Legs → ℕ
overlaps_of legs = sum_of overlap_cost legs

-- one diagram for each degree, with sizes times degrees adding up to at most d
unfoldable pub choices : List ℕ → ℕ → List Assignment
choices [] d = [] ∷ []
choices (g ∷ gs) d =
    flat_map (λ n. flat_map (λ rows. map (λ a. rows ∷ a) (choices gs (d - (n * g)))) (diagrams n))
    (filter (λ n. nat_le (n * g) d) (below (suc d)))

unfoldable pub assignments : Web → ℕ → List Assignment
assignments w d = choices (map (λ e. as_natural (edge_degree w e)) (compact w)) d

abbrev pub same_rows : Rows → Rows → Bool
same_rows = pointwise nat_eq

abbrev pub same_choice : List Rows → List Rows → Bool
same_choice = pointwise same_rows

abbrev pub same_vector : List ℤ → List ℤ → Bool
same_vector = pointwise int_eq

abbrev pub assignments_of : Web → List ℤ → List Assignment
assignments_of w v = filter (λ a. same_vector (class_of w a) v) (assignments w (as_natural (degree_of w.heights v)))
