-- Places with another place taken off.
--
-- place-same              places with equal parts are equal
-- difference-swap         two places are taken off in either order
-- difference_by-first     a place taken off k times and another once, in either order
-- difference_by-last      the last time apart from the earlier ones
-- difference_by-swap      two places taken off j and k times, in either order
-- difference_by-degree    the degree that is left; difference_by-exponent, the exponent; difference_by-weight, the weight
-- taken-below             of less than k nothing is left, where at least 1 is taken off k times; difference_by-lower, no more than there
--                         was; difference_by-used, nothing where it is taken off as often as the degree says
use Rattle.std.specs.Prelude.{◌≡◌, ℕ, zero, suc, ◌*◌, ◌≤◌, ℤ, pos, negsuc, ◌-ℤ◌, ◌*ℤ◌, ◌≤ℤ◌, ◌<ℤ◌, List, [], ◌∷◌}
use Rattle.std.proofs.Common.{refl, sym, ap, arith, ◌∙◌, mul-le-mul_left}
use Rattle.std.proofs.Math.IntN.{zero-*ℤ}
use Rattle.std.proofs.lemmas.Int.{ints}
use Rattle.tv_lemmas.proofs.Integers.{mul-sub}
use Rattle.tv_lemmas.proofs.Signs.{mul-nonneg-nonneg}
use Rattle.tv_spec_katz.specs.Places.{Place, class_difference, difference, difference_by}
use Rattle.tv_lemmas.proofs.Multiplied.{suc-times}
use Rattle.tv_laws_katz.specs.Weights.{weight}

place_by : {d e : ℤ} {u v : List ℤ} {m n : ℤ} → d ≡ e → u ≡ v → m ≡ n →
    ◌≡◌ {A = Place} (record { degree = d; class = u; exponent = m }) (record { degree = e; class = v; exponent = n })
place_by same also too = rw (same, also, too) refl

pub place-same : (p q : Place) → p.degree ≡ q.degree → p.class ≡ q.class → p.exponent ≡ q.exponent → p ≡ q
place-same p q d c e = place_by d c e

-- no more is left where nothing is taken off
class_difference-none : (u : List ℤ) → class_difference u [] ≡ u
class_difference-none [] = refl
class_difference-none (x ∷ u) = refl

class_difference-swap : (u v w : List ℤ) → class_difference (class_difference u v) w ≡ class_difference (class_difference u w) v
class_difference-swap [] v w = refl
class_difference-swap (x ∷ u) [] w = sym (class_difference-none (class_difference (x ∷ u) w))
class_difference-swap (x ∷ u) (y ∷ v) [] = refl
class_difference-swap (x ∷ u) (y ∷ v) (z ∷ w) =
    let head : (x -ℤ y) -ℤ z ≡ (x -ℤ z) -ℤ y = omega (arith, ints) in
    rw (head, class_difference-swap u v w) refl

pub difference-swap : (p x y : Place) → difference (difference p x) y ≡ difference (difference p y) x
difference-swap p x y =
    place-same _ _ (omega (arith, ints)) (class_difference-swap p.class x.class y.class) (omega (arith, ints))

pub difference_by-none : (p x : Place) → difference_by 0 p x ≡ p
unfolding difference_by
difference_by-none p x = refl

pub difference_by-first : (k : ℕ) (p x y : Place) → difference_by k (difference p x) y ≡ difference (difference_by k p y) x
unfolding difference_by
difference_by-first zero p x y = refl
difference_by-first (suc k) p x y = ap (λ q. difference_by k q y) (difference-swap p x y) ∙
    difference_by-first k (difference p y) x y

pub difference_by-last : (k : ℕ) (p x : Place) → difference_by (suc k) p x ≡ difference (difference_by k p x) x
unfolding difference_by
difference_by-last k p x = difference_by-first k p x x

pub difference_by-swap : (j k : ℕ) (p x y : Place) →
    difference_by j (difference_by k p x) y ≡ difference_by k (difference_by j p y) x
unfolding difference_by
difference_by-swap zero k p x y = refl
difference_by-swap (suc j) k p x y = ap (λ q. difference_by j q y) (sym (difference_by-first k p y x)) ∙
    difference_by-swap j k (difference p y) x y

-- a measure of places that takes differences to differences
pub difference_by-measure : (m : Place → ℤ) → ((p x : Place) → m (difference p x) ≡ m p -ℤ m x) → (k : ℕ) (p x : Place) →
    m (difference_by k p x) ≡ m p -ℤ (pos k *ℤ m x)
unfolding difference_by
difference_by-measure m is zero p x = omega (arith, ints, zero-*ℤ (m x))
difference_by-measure m is (suc k) p x =
    omega (arith, ints, difference_by-measure m is k (difference p x) x, is p x, suc-times k (m x))

pub difference_by-degree : (k : ℕ) (p x : Place) → (difference_by k p x).degree ≡ p.degree -ℤ (pos k *ℤ x.degree)
difference_by-degree k p x = difference_by-measure (λ q. q.degree) (λ q y. refl) k p x

pub difference_by-exponent : (k : ℕ) (p x : Place) → (difference_by k p x).exponent ≡ p.exponent -ℤ (pos k *ℤ x.exponent)
difference_by-exponent k p x = difference_by-measure (λ q. q.exponent) (λ q y. refl) k p x

pub weight-difference : (w : ℕ) (p x : Place) → weight w (difference p x) ≡ weight w p -ℤ weight w x
weight-difference w p x = omega (arith, ints, mul-sub (pos w) p.degree x.degree)

pub difference_by-weight : (w k : ℕ) (p x : Place) → weight w (difference_by k p x) ≡ weight w p -ℤ (pos k *ℤ weight w x)
difference_by-weight w k p x = difference_by-measure (weight w) (weight-difference w) k p x

-- less is left than of a measure of m, where one takes off m + 1 times at least 1
pub taken-below : (k : ℕ) (d e : ℤ) → pos 1 ≤ℤ e → d <ℤ pos k → (d -ℤ (pos k *ℤ e)) <ℤ pos 0
taken-below k d (pos e) h less =
    let many : k * 1 ≤ k * e = mul-le-mul_left k (omega (arith, ints)) in
    omega (arith, ints, many)
taken-below k d (negsuc e) h less = absurd (omega (arith, ints))

-- and no more than there was, where a degree of at least 1 is taken off
pub difference_by-lower : (k : ℕ) (p x : Place) → pos 1 ≤ℤ x.degree → (difference_by k p x).degree ≤ℤ p.degree
difference_by-lower k p x rising =
    omega (arith, ints, difference_by-degree k p x, mul-nonneg-nonneg (pos k) x.degree (omega (arith, ints)) (omega (arith, ints)))

-- nor more than 0, where it is taken off at least as often as the degree says
pub difference_by-used : (k : ℕ) (p x : Place) → pos 1 ≤ℤ x.degree → p.degree ≤ℤ pos k → (difference_by k p x).degree ≤ℤ pos 0
difference_by-used k p x rising most =
    omega (arith, ints, difference_by-degree k p x, taken-below k (p.degree -ℤ pos 1) x.degree rising (omega (arith, ints)))
