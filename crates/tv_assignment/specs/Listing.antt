-- Lists of assignments as they are written, behind the diagrams that are chosen already.
--
-- behind front lists        == each of the lists behind front
-- sized front gs left g n   == those behind front of degree at most left, n cells on an edge of degree g first, then on edges of gs
-- AreSizes sizes            == they are 0, 1, 2, .. in order
-- degrees_of w              == the degrees of the compact edges, in their order
use Rattle.std.specs.Prelude.{◌≡◌, ℕ, ◌-◌, ◌*◌, ◌<◌, List, [], ◌∷◌, ◌++◌, map, cond, length, nat_le, slice_index_or}
use Rattle.std.specs.List.{flat_map}
use Rattle.tv_lemmas.specs.Naturals.{as_natural}
use Rattle.tv_spec_plane.specs.Web.{Web, compact, edge_degree}
use Rattle.tv_partition.specs.Rows.{diagrams}
use Rattle.tv_spec_boxes.specs.Assignments.{Rows, Assignment, choices}

unfoldable pub behind : List Rows → List Assignment → List Assignment
behind front lists = map (λ a. front ++ a) lists

unfoldable pub sized : List Rows → List ℕ → ℕ → ℕ → ℕ → List Assignment
sized front gs left g n = cond (nat_le (n * g) left) (flat_map (λ rows. behind (front ++ rows ∷ []) (choices gs (left - (n * g)))) (diagrams n)) []

abbrev pub AreSizes : List ℕ → Type 0
AreSizes sizes = (k : ℕ) → k < length sizes → slice_index_or sizes k 0 ≡ k

abbrev pub degrees_of : Web → List ℕ
degrees_of w = map (λ e. as_natural (edge_degree w e)) (compact w)
