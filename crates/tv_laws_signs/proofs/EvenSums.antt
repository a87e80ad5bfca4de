-- The sum over the even points of sums and multiples of vectors, and its parity for a class.
use Rattle.std.specs.Prelude.{◌≡◌, ℕ, zero, suc, Bool, true, false, cond, ◌||◌, ℤ, pos, ◌+ℤ◌, ◌*ℤ◌, List, [], ◌∷◌}
use Rattle.std.specs.List.{AllByRecursion}
use Rattle.std.proofs.Common.{refl, sym, ap, ◌∙◌, arith}
use Rattle.std.proofs.lemmas.Int.{ints}
use Rattle.tv_spec_plane.specs.declared.records.CompactEdge.{CompactEdge}
use Rattle.tv_spec_plane.specs.Plane.{Point}
use Rattle.tv_spec_plane.specs.Web.{Web, compact, even_sum, is_even_point, edge_class, normal_a}
use Rattle.tv_lemmas.proofs.Integers.{mul-swap}
use Rattle.tv_partition.specs.Rows.{size}
use Rattle.tv_spec_boxes.specs.Assignments.{Assignment, zeros, plus, times, class_on, sum_on, twist_by, class_of, edge_twist}
use Rattle.tv_laws_edges.specs.Rule.{HasRule, HasEdgeRule}
use Rattle.tv_lemmas.proofs.Integers.{mul-add}
use Rattle.tv_laws_edges.proofs.Parity.{is_even, eqv, is_even-add, is_even-mul, same_parity}
use Rattle.tv_laws_edges.proofs.Classes.{class-even}
use Rattle.tv_laws_signs.specs.Laws.{TwistParity}

cond-add : (b : Bool) (x y : ℤ) → cond b (x +ℤ y) (pos 0) ≡ cond b x (pos 0) +ℤ cond b y (pos 0)
cond-add true x y = refl
cond-add false x y = refl

cond-mul : (b : Bool) (n x : ℤ) → cond b (n *ℤ x) (pos 0) ≡ n *ℤ cond b x (pos 0)
cond-mul true n x = refl
cond-mul false n x = omega (arith, ints)

cond-zero : (b : Bool) → cond b (pos 0) (pos 0) ≡ pos 0
cond-zero true = refl
cond-zero false = refl

even_sum-plus : (ps : List Point) (u v : List ℤ) → even_sum ps (plus u v) ≡ even_sum ps u +ℤ even_sum ps v
even_sum-plus [] u v = refl
even_sum-plus (p ∷ ps) [] v = omega (arith, ints)
even_sum-plus (p ∷ ps) (x ∷ u) [] = omega (arith, ints)
even_sum-plus (p ∷ ps) (x ∷ u) (y ∷ v) = omega (arith, ints, cond-add (is_even_point p) x y, even_sum-plus ps u v)

even_sum-times : (ps : List Point) (n : ℕ) (v : List ℤ) → even_sum ps (times n v) ≡ pos n *ℤ even_sum ps v
even_sum-times [] n v = omega (arith, ints)
even_sum-times (p ∷ ps) n [] = omega (arith, ints)
even_sum-times (p ∷ ps) n (x ∷ v) = omega (arith, ints, cond-mul (is_even_point p) (pos n) x, even_sum-times ps n v, mul-add (pos n) (cond (is_even_point p) x (pos 0)) (even_sum ps v))

even_sum-zeros : (ps : List Point) (n : ℕ) → even_sum ps (zeros n) ≡ pos 0
even_sum-zeros [] n = refl
even_sum-zeros (p ∷ ps) zero = refl
even_sum-zeros (p ∷ ps) (suc n) = omega (arith, ints, cond-zero (is_even_point p), even_sum-zeros ps n)

-- one edge more
step_even : (s e t m k : ℤ) → is_even e ≡ is_even m → is_even t ≡ is_even k → is_even ((s *ℤ e) +ℤ t) ≡ is_even ((m *ℤ s) +ℤ k)
step_even s e t m k same rest =
    let left = is_even-add (s *ℤ e) t ∙ (ap (λ v. eqv v (is_even t)) (is_even-mul s e ∙ ap (λ v. is_even s || v) same) ∙ ap (eqv (is_even s || is_even m)) rest) in
    let right = is_even-add (m *ℤ s) k ∙ ap (λ v. eqv v (is_even k)) (ap is_even (mul-swap m s) ∙ is_even-mul s m) in
    left ∙ sym right

class_on-even : (w : Web) (es : List CompactEdge) (a : Assignment) → AllByRecursion (HasRule w) es → is_even (even_sum w.points (class_on w es a)) ≡ is_even (sum_on (twist_by w) es a)
class_on-even w [] a rules = ap is_even (even_sum-zeros w.points _)
class_on-even w (e ∷ es) [] rules = ap is_even (even_sum-zeros w.points _)
class_on-even w (e ∷ es) (d ∷ a) rules =
    let split = even_sum-plus w.points (times (size d) (edge_class w e)) (class_on w es a) ∙ ap (λ (s : ℤ). s +ℤ even_sum w.points (class_on w es a)) (even_sum-times w.points (size d) (edge_class w e)) in
    ap is_even split ∙ step_even (pos (size d)) (even_sum w.points (edge_class w e)) (even_sum w.points (class_on w es a)) (normal_a w e) (sum_on (twist_by w) es a) (class-even w e rules.0) (class_on-even w es a rules.1)

pub class_of-even : (w : Web) (a : Assignment) → HasEdgeRule w → is_even (even_sum w.points (class_of w a)) ≡ is_even (edge_twist w a)
class_of-even w a rules = class_on-even w (compact w) a rules

pub twist_parity : TwistParity
twist_parity w a rules = same_parity (even_sum w.points (class_of w a)) (edge_twist w a) (class_of-even w a rules)
