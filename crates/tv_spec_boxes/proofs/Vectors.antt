-- Vectors: the test of equality, how many entries there are, and sums of vectors entry by entry.
--
-- part_by w k e d == entry k of the class of an edge with its diagram
use Rattle.std.specs.Prelude.{◌≡◌, ℕ, zero, suc, ℤ, pos, ◌+ℤ◌, ◌*ℤ◌, true, List, [], ◌∷◌, length, slice_index_or}
use Rattle.std.proofs.Common.{refl, ◌∙◌, ap, arith}
use Rattle.std.proofs.lemmas.Int.{ints}
use Rattle.std.proofs.lemmas.Bool.{and_parts}
use Rattle.std.proofs.lemmas.Bool.Decides.{Decides-int_eq}
use Rattle.std.proofs.lemmas.List.{length-map}
use Rattle.std.proofs.lemmas.List.FromFn.{length-map-range_with_len}
use Rattle.std.specs.Ordering.{int_eq}
use Rattle.tv_spec_plane.specs.declared.records.CompactEdge.{CompactEdge}
use Rattle.tv_spec_plane.specs.Web.{Web, compact, class_entry, edge_class}
use Rattle.tv_partition.specs.Rows.{size}
use Rattle.tv_spec_boxes.specs.Assignments.{Rows, Assignment, zeros, plus, times, sum_on, class_by, class_on, class_of, same_vector, class_difference}

pub same_vector-same : (v : List ℤ) → same_vector v v ≡ true
same_vector-same [] = refl
same_vector-same (x ∷ v) = let e : int_eq x x ≡ true = (Decides-int_eq x x).1 refl in rw e (same_vector-same v)

pub same_vector_tells : (u v : List ℤ) → same_vector u v ≡ true → u ≡ v
same_vector_tells [] [] h = refl
same_vector_tells [] (y ∷ v) h = absurd (cc)
same_vector_tells (x ∷ u) [] h = absurd (cc)
same_vector_tells (x ∷ u) (y ∷ v) h =
    let parts = and_parts (int_eq x y) (same_vector u v) h in
    ap (λ z. z ∷ u) ((Decides-int_eq x y).0 parts.0) ∙ ap (λ w. y ∷ w) (same_vector_tells u v parts.1)

-- ---- how many entries there are

pub length-zeros : (n : ℕ) → length (zeros n) ≡ n
length-zeros zero = refl
length-zeros (suc n) = ap suc (length-zeros n)

pub length-plus : (u v : List ℤ) → length u ≡ length v → length (plus u v) ≡ length v
length-plus [] v e = refl
length-plus (x ∷ u) [] e = e
length-plus (x ∷ u) (y ∷ v) e = ap suc (length-plus u v (omega arith))

length-class_on : (w : Web) (es : List CompactEdge) (a : Assignment) → length (class_on w es a) ≡ length w.points
length-class_on w [] a = length-zeros (length w.points)
length-class_on w (e ∷ es) [] = length-zeros (length w.points)
length-class_on w (e ∷ es) (rows ∷ a) =
    let first = length-map (edge_class w e) (λ x. pos (size rows) *ℤ x) in
    let entries = length-map-range_with_len (class_entry w e) 0 (length w.points) in
    let rest = length-class_on w es a in
    length-plus (class_by w e rows) (class_on w es a) (omega arith) ∙ rest

pub length-class_of : (w : Web) (a : Assignment) → length (class_of w a) ≡ length w.points
length-class_of w a = length-class_on w (compact w) a

-- ---- entry by entry

at-zeros : (n k : ℕ) → slice_index_or (zeros n) k (pos 0) ≡ pos 0
at-zeros zero k = refl
at-zeros (suc n) zero = refl
at-zeros (suc n) (suc k) = at-zeros n k

at-plus : (u v : List ℤ) (k : ℕ) → slice_index_or (plus u v) k (pos 0) ≡ slice_index_or u k (pos 0) +ℤ slice_index_or v k (pos 0)
at-plus [] v k = omega (arith, ints)
at-plus (x ∷ u) [] k = omega (arith, ints)
at-plus (x ∷ u) (y ∷ v) zero = refl
at-plus (x ∷ u) (y ∷ v) (suc k) = at-plus u v k

at-times : (n : ℕ) (v : List ℤ) (k : ℕ) → slice_index_or (times n v) k (pos 0) ≡ pos n *ℤ slice_index_or v k (pos 0)
at-times n [] k = omega (arith, ints)
at-times n (x ∷ v) zero = refl
at-times n (x ∷ v) (suc k) = at-times n v k

abbrev pub part_by : Web → ℕ → CompactEdge → Rows → ℤ
part_by w k e d = pos (size d) *ℤ slice_index_or (edge_class w e) k (pos 0)

pub at-class_on : (w : Web) (es : List CompactEdge) (a : Assignment) (k : ℕ) → slice_index_or (class_on w es a) k (pos 0) ≡ sum_on (part_by w k) es a
at-class_on w [] a k = at-zeros (length w.points) k
at-class_on w (e ∷ es) [] k = at-zeros (length w.points) k
at-class_on w (e ∷ es) (d ∷ a) k =
    at-plus (class_by w e d) (class_on w es a) k ∙ (ap (λ z. z +ℤ slice_index_or (class_on w es a) k (pos 0)) (at-times (size d) (edge_class w e) k) ∙ ap (λ z. part_by w k e d +ℤ z) (at-class_on w es a k))

pub length-difference : (u v : List ℤ) → length (class_difference u v) ≡ length u
length-difference [] v = refl
length-difference (x ∷ u) [] = refl
length-difference (x ∷ u) (y ∷ v) = ap suc (length-difference u v)
