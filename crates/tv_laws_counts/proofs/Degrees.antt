-- The degree of an assignment's class is the sum of sizes times degrees, so in a graded web the assignments of a class
-- are found among all of degree at most a bound.
use Rattle.std.specs.Prelude.{◌≡◌, ℕ, ◌*◌, ◌≤◌, ◌<◌, true, nat_le, ℤ, pos, negsuc, ◌+ℤ◌, ◌*ℤ◌, ◌≤ℤ◌, ◌<ℤ◌, List, [], ◌∷◌, map, filter, length}
use Rattle.std.specs.List.{AllByRecursion}
use Rattle.std.proofs.Common.{refl, sym, ap, ◌∙◌, arith}
use Rattle.std.proofs.lemmas.Int.{ints}
use Rattle.std.proofs.lemmas.List.{length-map}
use Rattle.std.proofs.lemmas.Bool.Decides.{nat_tests}
use Rattle.tv_lemmas.specs.Naturals.{as_natural}
use Rattle.tv_lemmas.proofs.Integers.{diff_of, diff-same, diffs}
use Rattle.tv_lemmas.proofs.Integers.{mul-add}
use Rattle.tv_spec_plane.specs.declared.records.CompactEdge.{CompactEdge}
use Rattle.tv_spec_plane.specs.Web.{Web, compact, edge_class, edge_degree, degree_of}
use Rattle.tv_partition.specs.Rows.{size}
use Rattle.tv_spec_boxes.specs.Assignments.{Assignment, plus, times, class_on, class_of, choices, assignments, same_vector}
use Rattle.tv_spec_boxes.proofs.Vectors.{same_vector_tells, length-class_of}
use Rattle.tv_spec_boxes.proofs.OneCornerCrowd.{degree_zero}
use Rattle.tv_spec_plane.specs.Graded.{HasDegree, IsGraded}
use Rattle.tv_laws_counts.specs.Ways.{IsListed}
use Rattle.tv_laws_counts.specs.Laws.{AssignmentsByDegree, AssignmentsListed}
use Rattle.tv_lemmas.proofs.Lists.{filter-weaker}
use Rattle.tv_lemmas.proofs.Members.{all-onto}
use Rattle.tv_laws_counts.proofs.Choices.{degree_by, IsChoice, choices_are, choice_small, choices-within}
use Rattle.tv_lemmas.proofs.Multiplied.{mul-middle}

pub degree_of-plus : (hs u v : List ℤ) → degree_of hs (plus u v) ≡ degree_of hs u +ℤ degree_of hs v
degree_of-plus [] u v = refl
degree_of-plus (h ∷ hs) [] v = omega (arith, ints)
degree_of-plus (h ∷ hs) (x ∷ u) [] = omega (arith, ints)
degree_of-plus (h ∷ hs) (x ∷ u) (y ∷ v) = omega (arith, ints, mul-add h x y, degree_of-plus hs u v)

pub degree_of-times : (hs : List ℤ) (n : ℕ) (v : List ℤ) → degree_of hs (times n v) ≡ pos n *ℤ degree_of hs v
degree_of-times [] n v = omega (arith, ints)
degree_of-times (h ∷ hs) n [] = omega (arith, ints)
degree_of-times (h ∷ hs) n (x ∷ v) = omega (arith, ints, mul-middle h (pos n) x, degree_of-times hs n v, mul-add (pos n) (h *ℤ x) (degree_of hs v))

-- the degrees as natural numbers
abbrev pub weights : Web → List CompactEdge → List ℕ
weights w es = map (λ e. as_natural (edge_degree w e)) es

pub as_natural-positive : (z : ℤ) → pos 0 <ℤ z → z ≡ pos (as_natural z)
as_natural-positive (pos n) h = refl
as_natural-positive (negsuc n) h = absurd (omega (arith, ints))

pub weights_positive : (w : Web) (es : List CompactEdge) → AllByRecursion (HasDegree w) es → AllByRecursion (λ g. 0 < g) (weights w es)
weights_positive w [] graded = tt
weights_positive w (e ∷ es) graded = (let same = as_natural-positive (edge_degree w e) graded.0 in let up : pos 0 <ℤ edge_degree w e = graded.0 in omega (arith, ints), weights_positive w es graded.1)

class_on-degree : (w : Web) (es : List CompactEdge) → AllByRecursion (HasDegree w) es → (a : Assignment) → degree_of w.heights (class_on w es a) ≡ pos (degree_by (weights w es) a)
class_on-degree w [] graded a = degree_zero w.heights (length w.points)
class_on-degree w (e ∷ es) graded [] = degree_zero w.heights (length w.points)
class_on-degree w (e ∷ es) graded (rows ∷ a) =
    let one : edge_degree w e ≡ pos (as_natural (edge_degree w e)) = as_natural-positive (edge_degree w e) graded.0 in
    let first : pos (size rows) *ℤ edge_degree w e ≡ pos (size rows * as_natural (edge_degree w e)) = ap (λ z. pos (size rows) *ℤ z) one in
    degree_of-plus w.heights (times (size rows) (edge_class w e)) (class_on w es a)
    ∙ omega (arith, ints, degree_of-times w.heights (size rows) (edge_class w e), class_on-degree w es graded.1 a)

pub class_of-degree : (w : Web) → IsGraded w → (a : Assignment) → degree_of w.heights (class_of w a) ≡ pos (degree_by (weights w (compact w)) a)
class_of-degree w graded a = class_on-degree w (compact w) graded a

as_natural-within : (z : ℤ) (d : ℕ) → z ≤ℤ pos d → as_natural z ≤ d
as_natural-within (pos n) d h = omega (arith, ints)
as_natural-within (negsuc n) d h = omega arith

-- a class has the degree that its assignments have
class-within : (w : Web) → IsGraded w → (v : List ℤ) (a : Assignment) → same_vector (class_of w a) v ≡ true → nat_le (degree_by (weights w (compact w)) a) (as_natural (degree_of w.heights v)) ≡ true
class-within w graded v a e =
    let same : class_of w a ≡ v = same_vector_tells (class_of w a) v e in
    let degree : degree_of w.heights v ≡ pos (degree_by (weights w (compact w)) a) = ap (degree_of w.heights) (sym same) ∙ class_of-degree w graded a in
    let exact : as_natural (degree_of w.heights v) ≡ degree_by (weights w (compact w)) a = ap as_natural degree in
    grind (arith, nat_tests)

pub assignments_by_degree : AssignmentsByDegree
unfolding assignments
assignments_by_degree w d v graded h =
    let m : ℕ = as_natural (degree_of w.heights v) in
    ap (filter (λ a. same_vector (class_of w a) v)) (choices-within (weights w (compact w)) (weights_positive w (compact w) graded) m d (as_natural-within (degree_of w.heights v) d h))
    ∙ filter-weaker (λ a. same_vector (class_of w a) v) (λ a. nat_le (degree_by (weights w (compact w)) a) m) (class-within w graded v) (choices (weights w (compact w)) d)

is_listed : (w : Web) (d : ℕ) → IsGraded w → (a : Assignment) → IsChoice (weights w (compact w)) d a → IsListed w d a
is_listed w d graded a is = record {
  one_each = is.one_each ∙ length-map (compact w) (λ e. as_natural (edge_degree w e));
  diagrams = choice_small (weights w (compact w)) d a (weights_positive w (compact w) graded) is.one_each is.diagrams is.within;
  entries = length-class_of w a;
  least = let e = class_of-degree w graded a in omega (arith, ints);
  most = let e = class_of-degree w graded a in let h = is.within in omega (arith, ints);
}

pub assignments_listed : AssignmentsListed
unfolding assignments
assignments_listed w d graded = all-onto (IsChoice (weights w (compact w)) d) (IsListed w d) (is_listed w d graded) (choices (weights w (compact w)) d) (choices_are (weights w (compact w)) d)
