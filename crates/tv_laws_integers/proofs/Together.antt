-- Two assignments together are one whose class is the sum of theirs. So with any two classes of assignments of degree at most d
-- their sum is such a class, where its degree is at most d.
--
-- one_row n    == the diagram of n cells in one row, with no row where n is 0
-- together a b == on each edge the diagram of one row that has as many cells as those of a and b
use Rattle.std.specs.Prelude.{◌≡◌, ℕ, zero, suc, ◌+◌, ◌≤◌, ℤ, pos, ◌+ℤ◌, ◌*ℤ◌, ◌≤ℤ◌, List, [], ◌∷◌, length}
use Rattle.std.proofs.Common.{refl, sym, ◌∙◌, ap, arith}
use Rattle.std.proofs.lemmas.Int.{ints}
use Rattle.std.proofs.lemmas.List.{length-map}
use Rattle.std.specs.List.{AllByRecursion}
use Rattle.tv_lemmas.specs.Naturals.{as_natural}
use Rattle.tv_lemmas.proofs.Multiplied.{add-mul}
use Rattle.tv_partition.specs.Rows.{IsDiagram, size}
use Rattle.tv_spec_plane.specs.declared.records.CompactEdge.{CompactEdge}
use Rattle.tv_spec_plane.specs.Web.{Web, compact, edge_class, edge_degree, degree_of}
use Rattle.tv_spec_plane.specs.Graded.{IsGraded}
use Rattle.tv_spec_boxes.specs.Assignments.{Rows, Assignment, plus, times, class_by, class_on, class_of}
use Rattle.tv_spec_boxes.specs.Classes.{IsClass}
use Rattle.tv_spec_boxes.specs.Relations.{IsAssignment}
use Rattle.tv_laws_counts.proofs.Choices.{degree_by}
use Rattle.tv_laws_counts.proofs.Degrees.{weights, class_of-degree}
use Rattle.tv_laws_counts.proofs.Assigned.{is_assignment, assignments_are_all}
use Rattle.tv_laws_families.proofs.ZeroClass.{plus-zeros}
use Rattle.tv_laws_integers.proofs.SumsOfClasses.{plus_assoc}

-- ---- sums of vectors

plus_comm : (u v : List ℤ) → plus u v ≡ plus v u
plus_comm [] [] = refl
plus_comm [] (y ∷ v) = refl
plus_comm (x ∷ u) [] = refl
plus_comm (x ∷ u) (y ∷ v) = let first : x +ℤ y ≡ y +ℤ x = omega (arith, ints) in rw (first, plus_comm u v) refl

plus-pairs : (a b u v : List ℤ) → plus (plus a b) (plus u v) ≡ plus (plus a u) (plus b v)
plus-pairs a b u v =
    plus_assoc a b (plus u v)
    ∙ (ap (plus a) (sym (plus_assoc b u v) ∙ (ap (λ z. plus z v) (plus_comm b u) ∙ plus_assoc u b v))
    ∙ sym (plus_assoc a u (plus b v)))

times-both : (m n : ℕ) (v : List ℤ) → times (m + n) v ≡ plus (times m v) (times n v)
times-both m n [] = refl
times-both m n (x ∷ v) =
    let sum : pos (m + n) ≡ pos m +ℤ pos n = omega (arith, ints) in
    let first : pos (m + n) *ℤ x ≡ (pos m *ℤ x) +ℤ (pos n *ℤ x) = ap (λ z. z *ℤ x) sum ∙ add-mul (pos m) (pos n) x in
    rw (first, times-both m n v) refl

-- ---- two assignments together

one_row : ℕ → Rows
one_row zero = []
one_row (suc n) = suc n ∷ []

size-one_row : (n : ℕ) → size (one_row n) ≡ n
unfolding one_row
size-one_row zero = refl
size-one_row (suc n) = omega arith

one_row-diagram : (n : ℕ) → IsDiagram (one_row n)
unfolding one_row
one_row-diagram zero = tt
one_row-diagram (suc n) = (omega arith, tt)

together : Assignment → Assignment → Assignment
together (r ∷ a) (s ∷ b) = one_row (size r + size s) ∷ together a b
together _ _ = []

together-diagrams : (a b : Assignment) → AllByRecursion IsDiagram (together a b)
unfolding together
together-diagrams [] b = tt
together-diagrams (r ∷ a) [] = tt
together-diagrams (r ∷ a) (s ∷ b) = (one_row-diagram (size r + size s), together-diagrams a b)

length-together : (a b : Assignment) → length a ≡ length b → length (together a b) ≡ length a
unfolding together
length-together [] b e = refl
length-together (r ∷ a) [] e = sym e
length-together (r ∷ a) (s ∷ b) e = ap suc (length-together a b (omega arith))

class_by-together : (w : Web) (e : CompactEdge) (r s : Rows)
    → class_by w e (one_row (size r + size s)) ≡ plus (class_by w e r) (class_by w e s)
class_by-together w e r s =
    ap (λ n. times n (edge_class w e)) (size-one_row (size r + size s)) ∙ times-both (size r) (size s) (edge_class w e)

class_on-together : (w : Web) (es : List CompactEdge) (a b : Assignment) → length a ≡ length es → length b ≡ length es
    → class_on w es (together a b) ≡ plus (class_on w es a) (class_on w es b)
unfolding together
class_on-together w [] a b one other = sym (plus-zeros (length w.points))
class_on-together w (e ∷ es) [] b one other = absurd (omega arith)
class_on-together w (e ∷ es) (r ∷ a) [] one other = absurd (omega arith)
class_on-together w (e ∷ es) (r ∷ a) (s ∷ b) one other =
    rw (class_by-together w e r s, class_on-together w es a b (omega arith) (omega arith))
    (plus-pairs (class_by w e r) (class_by w e s) (class_on w es a) (class_on w es b))

-- ---- the sum of two classes

module _ (w : Web) (d : ℕ) (graded : IsGraded w) where
  both : (u v : List ℤ) → IsClass w d u → IsClass w d v → Assignment
  both u v one other = together one.witness other.witness

  edges : (v : List ℤ) (is : IsClass w d v) → length is.witness ≡ length (compact w)
  edges v is = ((assignments_are_all w d is.witness graded).0 is.listed).one_each

  class_of-both : (u v : List ℤ) (one : IsClass w d u) (other : IsClass w d v) → class_of w (both u v one other) ≡ plus u v
  unfolding both
  class_of-both u v one other =
      class_on-together w (compact w) one.witness other.witness (edges u one) (edges v other)
      ∙ (ap (λ z. plus z (class_of w other.witness)) one.same ∙ ap (plus u) other.same)

  within : (u v : List ℤ) (one : IsClass w d u) (other : IsClass w d v) → degree_of w.heights (plus u v) ≤ℤ pos d
      → degree_by (weights w (compact w)) (both u v one other) ≤ d
  within u v one other most =
      let degree : degree_of w.heights (plus u v) ≡ pos (degree_by (weights w (compact w)) (both u v one other)) =
      ap (degree_of w.heights) (sym (class_of-both u v one other)) ∙ class_of-degree w graded (both u v one other) in
      omega (arith, ints)

  both_is : (u v : List ℤ) (one : IsClass w d u) (other : IsClass w d v) → degree_of w.heights (plus u v) ≤ℤ pos d
      → IsAssignment w d (both u v one other)
  unfolding both
  both_is u v one other most = is_assignment w d (both u v one other) graded (record {
    one_each = length-together one.witness other.witness (edges u one ∙ sym (edges v other)) ∙ (edges u one
        ∙ sym (length-map (compact w) (λ e. as_natural (edge_degree w e))));
    diagrams = together-diagrams one.witness other.witness;
    within = within u v one other most;
  })

  pub sum_is_class : (u v : List ℤ) → IsClass w d u → IsClass w d v → degree_of w.heights (plus u v) ≤ℤ pos d
      → IsClass w d (plus u v)
  sum_is_class u v one other most = record {
    witness = both u v one other;
    listed = (assignments_are_all w d (both u v one other) graded).1 (both_is u v one other most);
    same = class_of-both u v one other;
  }
