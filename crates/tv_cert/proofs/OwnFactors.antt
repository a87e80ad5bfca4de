-- The factors of all integers at one class, gathered from the integers of that class.
--
-- values_by C base gs t == the sum of the values C of the powers of these integers at the weight t
-- total-split       what an integer and further ones have at a class
-- total-other       an integer of another class has nothing there
-- led-total, total-own  what one of the class has
-- total-values      what all integers have there
-- power-values, size-values  so of their powers, and of the sizes of these
use Rattle.std.specs.Prelude.{◌≡◌, ℕ, ◌+◌, ◌-◌, ◌≤◌, ℤ, pos, ◌+ℤ◌, ◌-ℤ◌, ◌*ℤ◌, unsigned_abs, List, [], ◌∷◌}
use Rattle.std.specs.List.{AllByRecursion}
use Rattle.std.specs.Ordering.{int_eq}
use Rattle.std.proofs.Common.{refl, sym, ap, subst, arith, ◌∙◌, inl, inr}
use Rattle.std.proofs.Math.IntN.{*ℤ-zero}
use Rattle.std.proofs.lemmas.Int.{ints}
use Rattle.std.proofs.lemmas.Bool.{cases_Bool}
use Rattle.std.proofs.lemmas.Bool.Decides.{Decides-int_eq}
use Rattle.tv_lemmas.proofs.Sums.{total-append}
use Rattle.tv_lemmas.proofs.Members.{all-onto}
use Rattle.tv_lemmas.proofs.Multiplied.{mul-one}
use Rattle.tv_spec_boxes.specs.Assignments.{same_vector}
use Rattle.tv_spec_boxes.proofs.Vectors.{same_vector_tells}
use Rattle.tv_spec_series.proofs.Order.{same_vector-equal, same_vector-other}
use Rattle.tv_spec_katz.specs.Places.{place, difference, unit}
use Rattle.tv_spec_katz.specs.Product.{Factor}
use Rattle.tv_spec_katz.specs.Katz.{Integer, factor_at, factors_by, factors}
use Rattle.tv_laws_katz.specs.Logarithm.{when}
use Rattle.tv_laws_katz.specs.Gathered.{total_in, power_in}
use Rattle.tv_laws_katz.proofs.FurtherInteger.{IsFactorOf, factors-are, zero-class}
use Rattle.tv_laws_katz.proofs.Totals.{total-none, when-on, when-off}
use Rattle.tv_laws_katz.proofs.Units.{unit-one, unit-none}
use Rattle.tv_laws_majorant.specs.Laws.{size_in}
use Rattle.tv_integers.specs.declared.genus_value.GenusValue.{GenusValue}
use Rattle.tv_integers.specs.Kept.{values_of, value_of}
use Rattle.tv_class_integers.specs.Powers.{added}
use Rattle.tv_class_integers.proofs.OwnPowers.{IsByPower, lead_by, own-added}
use Rattle.tv_cert.specs.Powers.{value_power, values_sum, values_size}

abbrev pub values_by : (ℤ → ℤ) → ℕ → List GenusValue → ℕ → ℤ
values_by C base [] t = pos 0
values_by C base (g ∷ gs) t = C (value_power base g t) +ℤ values_by C base gs t

pub total-split : (c : Factor → ℤ) (hs : List ℤ) (T : ℕ) (i : Integer) (is : List Integer) (B : List ℤ) (m : ℤ) →
    total_in c (factors hs T (i ∷ is)) B m ≡ total_in c (factors_by hs i.genus T i) B m +ℤ total_in c (factors hs T is) B m
total-split c hs T i is B m = total-append _ (factors_by hs i.genus T i) (factors hs T is)

pub total-other : (c : Factor → ℤ) (hs : List ℤ) (T : ℕ) (i : Integer) (B : List ℤ) (m : ℤ) → (i.class ≡ B → ⊥) →
    total_in c (factors_by hs i.genus T i) B m ≡ pos 0
total-other c hs T i B m other =
    total-none _ (factors_by hs i.genus T i) (all-onto (IsFactorOf hs i)
    (λ f. when (same_vector f.at.class B) (when (int_eq f.at.exponent m) (c f)) ≡ pos 0)
    (λ f of. when-off (same_vector f.at.class B) (when (int_eq f.at.exponent m) (c f))
    (same_vector-other f.at.class B (λ e. other (sym (ap (λ (g : Factor). g.at.class) of.is) ∙ e))))
    (factors_by hs i.genus T i) (factors-are hs i.genus T i refl))

at-here : (hs : List ℤ) (i : Integer) (n m x : ℤ) →
    x *ℤ unit (difference (place hs i.class n) (place hs i.class m)) ≡ when (int_eq m n) x
at-here hs i n m x = elim (cases_Bool (int_eq m n)) [
  | inl on ↦
      let same = (Decides-int_eq m n).0 on in
      let one = unit-one (difference (place hs i.class n) (place hs i.class m))
      (record { degree = omega (arith, ints); class = zero-class i.class; exponent = omega (arith, ints) }) in
      ap (λ z. x *ℤ z) one ∙ (mul-one x ∙ sym (when-on (int_eq m n) x on))
  | inr off ↦
      let none = unit-none (difference (place hs i.class n) (place hs i.class m))
      (λ is. let at = is.exponent in let on = (Decides-int_eq m n).1 (omega (arith, ints)) in cc) in
      ap (λ z. x *ℤ z) none ∙ (*ℤ-zero x ∙ sym (when-off (int_eq m n) x off))
]

one-led : (c : Factor → ℤ) (hs : List ℤ) (i : Integer) (n : ℤ) (f : Factor) → IsFactorOf hs i f →
    c f *ℤ unit (difference (place hs i.class n) f.at) ≡ when (same_vector f.at.class i.class) (when (int_eq f.at.exponent n) (c f))
one-led c hs i n f of =
    let g = factor_at hs i of.exponent of.power in
    let on = same_vector-equal i.class i.class refl in
    ap (λ (h : Factor). c h *ℤ unit (difference (place hs i.class n) h.at)) of.is ∙
    (at-here hs i n of.exponent (c g) ∙
    (sym (when-on (same_vector i.class i.class) (when (int_eq of.exponent n) (c g)) on) ∙
    ap (λ (h : Factor). when (same_vector h.at.class i.class) (when (int_eq h.at.exponent n) (c h))) (sym of.is)))

led-total : (c : Factor → ℤ) (hs : List ℤ) (i : Integer) (n : ℤ) (fs : List Factor) → AllByRecursion (IsFactorOf hs i) fs →
    lead_by c fs (place hs i.class n) ≡ total_in c fs i.class n
led-total c hs i n [] of = refl
led-total c hs i n (f ∷ fs) of = omega (arith, ints, one-led c hs i n f of.0, led-total c hs i n fs of.1)

pub total-own : (c : Factor → ℤ) (C : ℤ → ℤ) (hs : List ℤ) (T : ℕ) (i : Integer) → IsByPower hs i c C → (base s t : ℕ) (n : ℤ) →
    n ≡ pos t -ℤ pos base → t ≤ T → s + i.genus ≡ base + 1 →
    total_in c (factors_by hs i.genus T i) i.class n ≡ C (added s i.genus i.value t)
total-own c C hs T i by base s t n e h room =
    sym (led-total c hs i n (factors_by hs i.genus T i) (factors-are hs i.genus T i refl)) ∙
    own-added hs i c C by base s t n e i.genus T refl h room

module _ (c : Factor → ℤ) (C : ℤ → ℤ) (hs : List ℤ) (by : (i : Integer) → IsByPower hs i c C) (T : ℕ) (v : List ℤ) (base t : ℕ)
    (n : ℤ) (at : n ≡ pos t -ℤ pos base) (far : t ≤ T) where
  pub total-values : (is : List Integer) → AllByRecursion (λ (i : Integer). i.class ≡ v → i.genus ≤ base + 1) is →
      total_in c (factors hs T is) v n ≡ values_by C base (values_of v is) t
  total-values [] low = refl
  total-values (i ∷ is) low = elim (cases_Bool (same_vector i.class v)) as
      (λ _. total_in c (factors hs T (i ∷ is)) v n ≡ values_by C base (values_of v (i ∷ is)) t) [
        | inl on ↦
            let same = same_vector_tells i.class v on in
            let most = low.0 same in
            let room : ((base + 1) - i.genus) + i.genus ≡ base + 1 = omega (arith, most) in
            let own = total-own c C hs T i (by i) base ((base + 1) - i.genus) t n at far room in
            let here : total_in c (factors_by hs i.genus T i) v n ≡ C (value_power base (value_of i) t) =
            subst (λ B. total_in c (factors_by hs i.genus T i) B n ≡ C (value_power base (value_of i) t)) same own in
            let rest = total-values is low.1 in
            let seen : values_by C base (values_of v (i ∷ is)) t ≡
            C (value_power base (value_of i) t) +ℤ values_by C base (values_of v is) t = rw on refl in
            total-split c hs T i is v n ∙ (omega (arith, ints, here, rest) ∙ sym seen)
        | inr off ↦
            let apart : i.class ≡ v → ⊥ = λ e. let on = same_vector-equal i.class v e in cc in
            let none = total-other c hs T i v n apart in
            let rest = total-values is low.1 in
            let seen : values_by C base (values_of v (i ∷ is)) t ≡ values_by C base (values_of v is) t = rw off refl in
            total-split c hs T i is v n ∙ (omega (arith, ints, none, rest) ∙ sym seen)
      ]

sum-by : (base : ℕ) (gs : List GenusValue) (t : ℕ) → values_by (λ z. z) base gs t ≡ values_sum base gs t
sum-by base [] t = refl
sum-by base (g ∷ gs) t = omega (arith, ints, sum-by base gs t)

size-by : (base : ℕ) (gs : List GenusValue) (t : ℕ) → values_by (λ z. pos (unsigned_abs z)) base gs t ≡ pos (values_size base gs t)
size-by base [] t = refl
size-by base (g ∷ gs) t = omega (arith, ints, size-by base gs t)

module _ (hs : List ℤ) (T : ℕ) (v : List ℤ) (base t : ℕ) (n : ℤ) (at : n ≡ pos t -ℤ pos base) (far : t ≤ T) (is : List Integer)
    (low : AllByRecursion (λ (i : Integer). i.class ≡ v → i.genus ≤ base + 1) is) where
  pub power-values : power_in (factors hs T is) v n ≡ values_sum base (values_of v is) t
  unfolding power_in
  power-values =
      total-values (λ f. f.power) (λ z. z) hs (λ i. record { value = λ m e. refl; none = refl }) T v base t n at far is low ∙
      sum-by base (values_of v is) t

  pub size-values : size_in (factors hs T is) v n ≡ pos (values_size base (values_of v is) t)
  unfolding size_in
  size-values =
      total-values (λ f. pos (unsigned_abs f.power)) (λ z. pos (unsigned_abs z)) hs
      (λ i. record { value = λ m e. refl; none = refl }) T v base t n at far is low ∙ size-by base (values_of v is) t
