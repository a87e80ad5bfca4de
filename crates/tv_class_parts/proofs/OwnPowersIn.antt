-- The powers of the factors at a class, of the integers of that class and of others.
--
-- powers-split      of an integer and of further ones
-- powers-apart      integers of other classes have none
-- powers-own        those of one integer of the class
-- powers-onto, powers-onto_other  those of all integers that were read off a class, there and at another class
use Rattle.std.specs.Prelude.{◌≡◌, ℕ, ◌+◌, ◌≤◌, ℤ, pos, neg_ℤ, ◌+ℤ◌, ◌-ℤ◌, ◌*ℤ◌, List, [], ◌∷◌, ◌++◌, length}
use Rattle.std.specs.List.{AllByRecursion}
use Rattle.std.specs.Ordering.{int_eq}
use Rattle.std.proofs.Common.{refl, sym, ap, arith, ◌∙◌, inl, inr}
use Rattle.std.proofs.Math.IntN.{*ℤ-zero}
use Rattle.std.proofs.lemmas.Int.{ints}
use Rattle.std.proofs.lemmas.Bool.{cases_Bool}
use Rattle.std.proofs.lemmas.Bool.Decides.{Decides-int_eq}
use Rattle.tv_lemmas.proofs.Sums.{total-append}
use Rattle.tv_lemmas.proofs.Members.{all-onto}
use Rattle.tv_lemmas.proofs.Multiplied.{mul-one}
use Rattle.tv_spec_boxes.specs.Assignments.{same_vector}
use Rattle.tv_spec_series.proofs.Order.{same_vector-equal, same_vector-other}
use Rattle.tv_spec_katz.specs.Places.{place, difference, unit}
use Rattle.tv_spec_katz.specs.Product.{Factor}
use Rattle.tv_spec_katz.specs.Katz.{Integer, factor_at, factors_by, factors}
use Rattle.tv_laws_katz.specs.Logarithm.{when}
use Rattle.tv_laws_katz.specs.Gathered.{power_in}
use Rattle.tv_laws_katz.proofs.FurtherInteger.{IsFactorOf, factors-are, zero-class}
use Rattle.tv_laws_katz.proofs.Totals.{total-none, when-on, when-off}
use Rattle.tv_laws_katz.proofs.Units.{unit-one, unit-none}
use Rattle.tv_class_integers.specs.Powers.{added}
use Rattle.tv_class_integers.specs.Readings.{genus_at, power_sum}
use Rattle.tv_class_integers.specs.ClassIntegers.{onto}
use Rattle.tv_class_integers.proofs.FirstOrder.{onto-none, onto-one, zero-cases, signed}
use Rattle.tv_class_integers.proofs.OwnPowers.{lead_by, own-added, added-none}

pub powers-append : (fs gs : List Factor) (B : List ℤ) (m : ℤ) → power_in (fs ++ gs) B m ≡ power_in fs B m +ℤ power_in gs B m
unfolding power_in
powers-append fs gs B m = total-append _ fs gs

pub powers-split : (hs : List ℤ) (T : ℕ) (i : Integer) (is : List Integer) (B : List ℤ) (m : ℤ) →
    power_in (factors hs T (i ∷ is)) B m ≡ power_in (factors_by hs i.genus T i) B m +ℤ power_in (factors hs T is) B m
powers-split hs T i is B m = powers-append (factors_by hs i.genus T i) (factors hs T is) B m

-- at another class
pub powers-other : (hs : List ℤ) (T : ℕ) (i : Integer) (B : List ℤ) (m : ℤ) → (i.class ≡ B → ⊥) →
    power_in (factors_by hs i.genus T i) B m ≡ pos 0
unfolding power_in
powers-other hs T i B m other =
    total-none _ (factors_by hs i.genus T i) (all-onto (IsFactorOf hs i)
    (λ f. when (same_vector f.at.class B) (when (int_eq f.at.exponent m) f.power) ≡ pos 0)
    (λ f of. when-off (same_vector f.at.class B) (when (int_eq f.at.exponent m) f.power)
    (same_vector-other f.at.class B (λ e. other (sym (ap (λ (g : Factor). g.at.class) of.is) ∙ e))))
    (factors_by hs i.genus T i) (factors-are hs i.genus T i refl))

pub powers-apart : (hs : List ℤ) (T : ℕ) (is : List Integer) (B : List ℤ) (m : ℤ) → AllByRecursion (λ i. i.class ≡ B → ⊥) is →
    power_in (factors hs T is) B m ≡ pos 0
unfolding power_in
powers-apart hs T [] B m apart = refl
powers-apart hs T (i ∷ is) B m apart =
    powers-split hs T i is B m ∙ omega (arith, ints, powers-other hs T i B m apart.0, powers-apart hs T is B m apart.1)

-- at the own class
at-here : (hs : List ℤ) (i : Integer) (n m e : ℤ) →
    neg_ℤ e *ℤ unit (difference (place hs i.class n) (place hs i.class m)) ≡ neg_ℤ (when (int_eq m n) e)
at-here hs i n m e = elim (cases_Bool (int_eq m n)) [
  | inl on ↦
      let same = (Decides-int_eq m n).0 on in
      let one = unit-one (difference (place hs i.class n) (place hs i.class m))
      (record { degree = omega (arith, ints); class = zero-class i.class; exponent = omega (arith, ints) }) in
      ap (λ z. neg_ℤ e *ℤ z) one ∙ (mul-one (neg_ℤ e) ∙ ap neg_ℤ (sym (when-on (int_eq m n) e on)))
  | inr off ↦
      let none = unit-none (difference (place hs i.class n) (place hs i.class m))
      (λ is. let at = is.exponent in let on = (Decides-int_eq m n).1 (omega (arith, ints)) in cc) in
      ap (λ z. neg_ℤ e *ℤ z) none ∙ (*ℤ-zero (neg_ℤ e) ∙ ap neg_ℤ (sym (when-off (int_eq m n) e off)))
]

one-led : (hs : List ℤ) (i : Integer) (n : ℤ) (f : Factor) → IsFactorOf hs i f →
    signed f *ℤ unit (difference (place hs i.class n) f.at) ≡
    neg_ℤ (when (same_vector f.at.class i.class) (when (int_eq f.at.exponent n) f.power))
one-led hs i n f of =
    let g = factor_at hs i of.exponent of.power in
    let on = same_vector-equal i.class i.class refl in
    ap (λ (h : Factor). signed h *ℤ unit (difference (place hs i.class n) h.at)) of.is ∙
    (at-here hs i n of.exponent of.power ∙
    (ap neg_ℤ (sym (when-on (same_vector i.class i.class) (when (int_eq of.exponent n) of.power) on)) ∙
    ap (λ (h : Factor). neg_ℤ (when (same_vector h.at.class i.class) (when (int_eq h.at.exponent n) h.power))) (sym of.is)))

led-powers : (hs : List ℤ) (i : Integer) (n : ℤ) (fs : List Factor) → AllByRecursion (IsFactorOf hs i) fs →
    lead_by signed fs (place hs i.class n) ≡ neg_ℤ (power_in fs i.class n)
unfolding power_in
led-powers hs i n [] of = refl
led-powers hs i n (f ∷ fs) of = omega (arith, ints, one-led hs i n f of.0, led-powers hs i n fs of.1)

pub powers-own : (hs : List ℤ) (T : ℕ) (i : Integer) (base s t : ℕ) (n : ℤ) → n ≡ pos t -ℤ pos base → t ≤ T →
    s + i.genus ≡ base + 1 → power_in (factors_by hs i.genus T i) i.class n ≡ added s i.genus i.value t
powers-own hs T i base s t n e h room =
    let led = led-powers hs i n (factors_by hs i.genus T i) (factors-are hs i.genus T i refl) in
    let own = own-added hs i signed neg_ℤ (record { value = λ m p. refl; none = refl }) base s t n e i.genus T refl h room in
    omega (arith, ints)

-- all integers that were read off a class
pub powers-onto : (hs : List ℤ) (T : ℕ) (v : List ℤ) (base : ℕ) (is : List Integer) (xs : List ℤ) (t : ℕ) (n : ℤ) →
    n ≡ pos t -ℤ pos base → t ≤ T → length xs ≤ base + 2 → AllByRecursion (λ i. i.class ≡ v → ⊥) is →
    power_in (factors hs T (onto v base xs is)) v n ≡ power_sum base xs t
powers-onto hs T v base is [] t n e h short apart = powers-apart hs T is v n apart
powers-onto hs T v base is (x ∷ xs) t n e h short apart =
    let s = length xs in let g = genus_at base s in let js = onto v base xs is in
    let rest = powers-onto hs T v base is xs t n e h (omega arith) apart in
    elim (zero-cases x) [
      | inl none ↦
          let nothing : added s g x t ≡ pos 0 = ap (λ z. added s g z t) none ∙ added-none s g t in
          ap (λ ks. power_in (factors hs T ks) v n) (onto-none v g x js none) ∙ omega (arith, ints)
      | inr off ↦
          let new : Integer = record { class = v; genus = g; value = x } in
          let own = powers-own hs T new base s t n e h (omega arith) in
          ap (λ ks. power_in (factors hs T ks) v n) (onto-one v g x js off) ∙
          (powers-split hs T new js v n ∙ omega (arith, ints))
    ]

pub powers-onto_other : (hs : List ℤ) (T : ℕ) (v : List ℤ) (base : ℕ) (is : List Integer) (xs u : List ℤ) (n : ℤ) → (v ≡ u → ⊥) →
    power_in (factors hs T (onto v base xs is)) u n ≡ power_in (factors hs T is) u n
powers-onto_other hs T v base is [] u n other = refl
powers-onto_other hs T v base is (x ∷ xs) u n other =
    let g = genus_at base (length xs) in let js = onto v base xs is in
    let rest = powers-onto_other hs T v base is xs u n other in
    elim (zero-cases x) [
      | inl none ↦ ap (λ ks. power_in (factors hs T ks) u n) (onto-none v g x js none) ∙ rest
      | inr off ↦
          let new : Integer = record { class = v; genus = g; value = x } in
          let own = powers-other hs T new u n other in
          ap (λ ks. power_in (factors hs T ks) u n) (onto-one v g x js off) ∙
          (powers-split hs T new js u n ∙ omega (arith, ints))
    ]
