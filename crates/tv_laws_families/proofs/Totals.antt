-- What the assignments of one class among some add to the count, and in how many ways.
use Rattle.std.specs.Prelude.{◌≡◌, ℕ, ◌+◌, ◌*◌, ◌≤◌, ℤ, pos, negsuc, ◌+ℤ◌, unsigned_abs, Bool, true, false, cond, nat_eq, List, [], ◌∷◌, ◌++◌}
use Rattle.std.proofs.Common.{refl, sym, ap, ◌∙◌, arith, append-nil}
use Rattle.std.proofs.lemmas.Int.{unsigned_abs-mul}
use Rattle.std.proofs.lemmas.List.Elements.{filter-append}
use Rattle.tv_lemmas.specs.Sums.{total, sum_of}
use Rattle.tv_spec_plane.specs.Web.{Web, sign, parity}
use Rattle.tv_spec_boxes.specs.Assignments.{Rows, Assignment, all_legs, class_of, edge_twist, same_vector}
use Rattle.tv_spec_boxes.specs.Configurations.{boxes_left}
use Rattle.tv_laws_counts.specs.Ways.{ways_at, assignment_sign, assignment_coefficient}
use Rattle.tv_lemmas.proofs.Sums.{total-append, total-one, total-size, sum_of-append, sum_of-one}
use Rattle.tv_laws_families.specs.Glued.{of_class, class_total}

abbrev pub ways_on : Web → List Rows → ℤ → Assignment → ℕ
ways_on w fixed i a = ways_at (all_legs w a fixed) (boxes_left w fixed a i)

unfoldable pub class_ways : Web → List Rows → List ℤ → ℤ → List Assignment → ℕ
class_ways w fixed v i front = sum_of (ways_on w fixed i) (of_class w v front)

pub class_total_is : (w : Web) (fixed : List Rows) (v : List ℤ) (i : ℤ) (front : List Assignment) → class_total w fixed v i front ≡ total (λ a. assignment_coefficient w fixed a i) (of_class w v front)
unfolding class_total
class_total_is w fixed v i front = refl

pub class_ways_is : (w : Web) (fixed : List Rows) (v : List ℤ) (i : ℤ) (front : List Assignment) → class_ways w fixed v i front ≡ sum_of (ways_on w fixed i) (of_class w v front)
unfolding class_ways
class_ways_is w fixed v i front = refl

-- one more assignment
of_class-here : (w : Web) (v : List ℤ) (front : List Assignment) (a : Assignment) → same_vector (class_of w a) v ≡ true → of_class w v (front ++ a ∷ []) ≡ of_class w v front ++ a ∷ []
of_class-here w v front a e = filter-append (λ b. same_vector (class_of w b) v) front (a ∷ []) ∙ ap (λ t. of_class w v front ++ cond t (a ∷ []) []) e

of_class-other : (w : Web) (v : List ℤ) (front : List Assignment) (a : Assignment) → same_vector (class_of w a) v ≡ false → of_class w v (front ++ a ∷ []) ≡ of_class w v front
of_class-other w v front a e = filter-append (λ b. same_vector (class_of w b) v) front (a ∷ []) ∙ (ap (λ t. of_class w v front ++ cond t (a ∷ []) []) e ∙ append-nil (of_class w v front))

pub class_total-none : (w : Web) (fixed : List Rows) (v : List ℤ) (i : ℤ) → class_total w fixed v i [] ≡ pos 0
unfolding class_total
class_total-none w fixed v i = refl

pub class_total-here : (w : Web) (fixed : List Rows) (v : List ℤ) (i : ℤ) (front : List Assignment) (a : Assignment) → same_vector (class_of w a) v ≡ true → class_total w fixed v i (front ++ a ∷ []) ≡ class_total w fixed v i front +ℤ assignment_coefficient w fixed a i
class_total-here w fixed v i front a e =
    let f : Assignment → ℤ = λ b. assignment_coefficient w fixed b i in
    class_total_is w fixed v i (front ++ a ∷ [])
    ∙ (ap (total f) (of_class-here w v front a e)
    ∙ (total-append f (of_class w v front) (a ∷ [])
    ∙ (ap (λ z. total f (of_class w v front) +ℤ z) (total-one f a)
    ∙ ap (λ z. z +ℤ f a) (sym (class_total_is w fixed v i front)))))

pub class_total-other : (w : Web) (fixed : List Rows) (v : List ℤ) (i : ℤ) (front : List Assignment) (a : Assignment) → same_vector (class_of w a) v ≡ false → class_total w fixed v i (front ++ a ∷ []) ≡ class_total w fixed v i front
class_total-other w fixed v i front a e =
    class_total_is w fixed v i (front ++ a ∷ []) ∙ (ap (total (λ b. assignment_coefficient w fixed b i)) (of_class-other w v front a e) ∙ sym (class_total_is w fixed v i front))

pub class_ways-here : (w : Web) (fixed : List Rows) (v : List ℤ) (i : ℤ) (front : List Assignment) (a : Assignment) → same_vector (class_of w a) v ≡ true → class_ways w fixed v i (front ++ a ∷ []) ≡ class_ways w fixed v i front + ways_on w fixed i a
class_ways-here w fixed v i front a e =
    let f : Assignment → ℕ = ways_on w fixed i in
    class_ways_is w fixed v i (front ++ a ∷ [])
    ∙ (ap (sum_of f) (of_class-here w v front a e)
    ∙ (sum_of-append f (of_class w v front) (a ∷ [])
    ∙ (ap (λ z. sum_of f (of_class w v front) + z) (sum_of-one f a)
    ∙ ap (λ z. z + f a) (sym (class_ways_is w fixed v i front)))))

pub class_ways-front : (w : Web) (fixed : List Rows) (v : List ℤ) (i : ℤ) (front later : List Assignment) → class_ways w fixed v i front ≤ class_ways w fixed v i (front ++ later)
class_ways-front w fixed v i front later =
    let f : Assignment → ℕ = ways_on w fixed i in
    let both = class_ways_is w fixed v i (front ++ later) ∙ (ap (sum_of f) (filter-append (λ b. same_vector (class_of w b) v) front later) ∙ sum_of-append f (of_class w v front) (of_class w v later)) in
    let front = class_ways_is w fixed v i front in
    omega arith

-- the size of a coefficient
sign-one : (z : ℤ) → unsigned_abs (sign z) ≡ 1
sign-one z = by_test (nat_eq (parity z) 0)
  where
    by_test : (b : Bool) → unsigned_abs (cond b (pos 1) (negsuc 0)) ≡ 1
    by_test true = refl
    by_test false = refl

pub coefficient-ways : (w : Web) (fixed : List Rows) (a : Assignment) (i : ℤ) → unsigned_abs (assignment_coefficient w fixed a i) ≡ ways_on w fixed i a
unfolding assignment_coefficient
coefficient-ways w fixed a i =
    unsigned_abs-mul (assignment_sign w a i) (pos (ways_on w fixed i a)) ∙ (ap (λ s. s * ways_on w fixed i a) (sign-one (i +ℤ edge_twist w a)) ∙ omega arith)

pub class_total-size : (w : Web) (fixed : List Rows) (v : List ℤ) (i : ℤ) (front : List Assignment) → unsigned_abs (class_total w fixed v i front) ≤ class_ways w fixed v i front
unfolding class_total class_ways
class_total-size w fixed v i front = total-size (λ a. assignment_coefficient w fixed a i) (ways_on w fixed i) (λ a. coefficient-ways w fixed a i) (of_class w v front)
