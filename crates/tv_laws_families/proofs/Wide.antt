-- The sizes of the coefficients of a class and of one series more are together at most the crowd of the class.
use Rattle.std.proofs.Common.{◌≡◌, ℕ, ◌+◌, ◌*◌, ◌≤◌, ℤ, ◌≤ℤ◌, List, [], ◌∷◌, ◌++◌, Contains, sym, ◌∙◌, ap, arith, le_trans, le_of_eq, add-mul, unsigned_abs}
use Rattle.std.proofs.Math.Nat.{mul-le-mul}
use Rattle.std.specs.List.{AllByRecursion}
use Rattle.tv_lemmas.specs.Sums.{sum_of}
use Rattle.tv_ring.specs.Operations.{Operations, RingLaws, SizeLaws}
use Rattle.tv_ring.specs.Sums.{whole_times}
use Rattle.tv_ring.proofs.Sizes.{size-whole_times}
use Rattle.tv_laws_series.specs.Terms.{Terms}
use Rattle.tv_spec_plane.specs.Web.{Web}
use Rattle.tv_partition.specs.Rows.{IsDiagram}
use Rattle.tv_spec_boxes.specs.Assignments.{Rows, Assignment, assignments, class_of, assignments_of}
use Rattle.tv_spec_boxes.specs.Numbers.{crowd}
use Rattle.tv_spec_series.specs.Families.{Family, coefficient, coefficient_of}
use Rattle.tv_spec_boxes.proofs.Vectors.{same_vector-same}
use Rattle.tv_spec_plane.specs.Graded.{IsGraded}
use Rattle.tv_laws_counts.specs.Ways.{IsListed, assignment_coefficient}
use Rattle.tv_laws_counts.proofs.Degrees.{assignments_by_degree, assignments_listed}
use Rattle.tv_laws_counts.proofs.Crowds.{crowd_of_class}
use Rattle.tv_lemmas.proofs.Members.{all-contains}
use Rattle.tv_laws_families.proofs.Totals.{class_ways, class_ways_is, ways_on, class_ways-here, class_ways-front, class_total-size, coefficient-ways}
use Rattle.tv_laws_families.specs.Glued.{class_total, IsGlued}
use Rattle.tv_laws_families.proofs.Addends.{IsTermsOf}

pub class_ways-crowd : (w : Web) (fixed : List Rows) (d : ℕ) (a : Assignment) (i n : ℤ) → IsGraded w → AllByRecursion IsDiagram fixed → Contains (assignments w d) a → i ≤ℤ n → class_ways w fixed (class_of w a) i (assignments w d) ≤ crowd w fixed d n (class_of w a)
class_ways-crowd w fixed d a i n graded also among h =
    let is : IsListed w d a = all-contains (IsListed w d) (assignments w d) a (assignments_listed w d graded) among in
    let e : class_ways w fixed (class_of w a) i (assignments w d) ≡ sum_of (ways_on w fixed i) (assignments_of w (class_of w a)) = class_ways_is w fixed (class_of w a) i (assignments w d) ∙ ap (sum_of (ways_on w fixed i)) (sym (assignments_by_degree w d (class_of w a) graded is.most)) in
    rw e (crowd_of_class w fixed d (class_of w a) i n graded also is.least is.most h)

-- with the ways of one assignment more
pub ways-crowd : (w : Web) (fixed : List Rows) (d : ℕ) (front later : List Assignment) (a : Assignment) (i n : ℤ) → IsGraded w → AllByRecursion IsDiagram fixed → Contains (assignments w d) a → (front ++ a ∷ []) ++ later ≡ assignments w d → i ≤ℤ n → class_ways w fixed (class_of w a) i front + ways_on w fixed i a ≤ crowd w fixed d n (class_of w a)
ways-crowd w fixed d front later a i n graded also among e h =
    let one = class_ways-here w fixed (class_of w a) i front a (same_vector-same (class_of w a)) in
    let more = class_ways-front w fixed (class_of w a) i (front ++ a ∷ []) later in
    let all = ap (class_ways w fixed (class_of w a) i) e in
    let bound = class_ways-crowd w fixed d a i n graded also among h in
    omega arith

bounded : (x y p q u c : ℕ) → x ≤ p * u → y ≤ q * u → p + q ≤ c → x + y ≤ c * u
bounded x y p q u c h k within = let both : (p + q) * u ≤ c * u = mul-le-mul within (let same : u ≤ u = omega arith in same) in let parts : (p + q) * u ≡ p * u + q * u = add-mul p q u in omega arith

module _ {A : Type 0} {IsValue : A → Type 0} {r : Operations A} (laws : RingLaws IsValue r) (sizes : SizeLaws IsValue r) where
  size-within : (z : ℤ) (x : A) (p : ℕ) → x ≡ whole_times r z → unsigned_abs z ≤ p → r.size x ≤ p * r.size r.unit
  size-within z x p e h =
      let both : unsigned_abs z * r.size r.unit ≤ p * r.size r.unit = mul-le-mul h (let same : r.size r.unit ≤ r.size r.unit = omega arith in same) in
      rw e (le_trans (size-whole_times laws sizes z) both)

  pub sum-crowd : (w : Web) (fixed : List Rows) (d : ℕ) (n : ℤ) (front later : List Assignment) (a : Assignment) (t : Terms A) (f : Family A) (i : ℤ) → IsGraded w → AllByRecursion IsDiagram fixed → Contains (assignments w d) a → (front ++ a ∷ []) ++ later ≡ assignments w d → i ≤ℤ n → IsTermsOf r w fixed n a t → IsGlued r w fixed d n front f →
      r.size (coefficient_of r f (class_of w a) i) + r.size (coefficient r t i) ≤ crowd w fixed d n (class_of w a) * r.size r.unit
  sum-crowd w fixed d n front later a t f i graded also among e h is glued =
      let there = size-within (class_total w fixed (class_of w a) i front) (coefficient_of r f (class_of w a) i) (class_ways w fixed (class_of w a) i front) (glued.coefficients (class_of w a) i h) (class_total-size w fixed (class_of w a) i front) in
      let here = size-within (assignment_coefficient w fixed a i) (coefficient r t i) (ways_on w fixed i a) (is.coefficients i h) (le_of_eq (coefficient-ways w fixed a i)) in
      bounded (r.size (coefficient_of r f (class_of w a) i)) (r.size (coefficient r t i)) (class_ways w fixed (class_of w a) i front) (ways_on w fixed i a) (r.size r.unit) (crowd w fixed d n (class_of w a)) there here
      (ways-crowd w fixed d front later a i n graded also among e h)
