-- Katz's product over the integers of a class to first order.
--
-- slope-onto        integers that were read off a class are within the slope
-- lead-signed, lead-sized  what factors add with their signs, and without
-- product-one, sizes-one   one integer more, by weight
-- first_order_sum, first_order_sizes  all integers of the class
use Rattle.std.specs.Prelude.{◌≡◌, ◌⊎◌, ℕ, ◌+◌, ℤ, pos, neg_ℤ, ◌+ℤ◌, ◌-ℤ◌, ◌*ℤ◌, unsigned_abs, List, [], ◌∷◌, length, map, false}
use Rattle.std.specs.List.{AllByRecursion}
use Rattle.std.specs.Ordering.{int_eq}
use Rattle.std.proofs.Common.{refl, sym, ap, arith, ◌∙◌, inl, inr}
use Rattle.std.proofs.lemmas.Int.{ints}
use Rattle.std.proofs.lemmas.List.{map-append}
use Rattle.std.proofs.lemmas.Bool.{cases_Bool}
use Rattle.std.proofs.lemmas.Bool.Decides.{Decides-int_eq}
use Rattle.tv_lemmas.proofs.Members.{all-map}
use Rattle.tv_spec_plane.specs.Web.{degree_of}
use Rattle.tv_spec_katz.specs.Binomials.{power_at}
use Rattle.tv_spec_katz.specs.Places.{Place, difference, unit}
use Rattle.tv_spec_katz.specs.Product.{Factor, product}
use Rattle.tv_spec_katz.specs.Katz.{Integer, factors_by, factors}
use Rattle.tv_spec_katz.specs.Integers.{with_integer}
use Rattle.tv_spec_katz.specs.Majorant.{without_sign, absolute_product}
use Rattle.tv_laws_katz.specs.Weights.{IsWithinSlope}
use Rattle.tv_laws_katz.proofs.FurtherInteger.{factors-high}
use Rattle.tv_laws_katz.proofs.LargerBound.{product-absolute}
use Rattle.tv_laws_katz.proofs.Leading.{lead, IsHigh, first_order}
use Rattle.tv_laws_katz.proofs.Powers.{power_at-one}
use Rattle.tv_recurrence.specs.KatzParts.{katz_by_weight}
use Rattle.tv_recurrence.specs.Products.{exponent_at, at_weight}
use Rattle.tv_recurrence.proofs.KatzTotals.{katz_by_weight-product}
use Rattle.tv_recurrence.proofs.WeightedPlaces.{place-weight}
use Rattle.tv_class_integers.specs.Powers.{added}
use Rattle.tv_class_integers.specs.Readings.{genus_at}
use Rattle.tv_class_integers.specs.ClassIntegers.{onto, IsAtBase, FirstOrder, FirstOrderSizes}
use Rattle.tv_class_integers.proofs.OwnPowers.{lead_by, own-added, added-none, IsByPower}
use Rattle.tv_laws_katz.proofs.GatheredTerms.{power_size}

pub onto-none : (v : List ℤ) (g : ℕ) (x : ℤ) (is : List Integer) → x ≡ pos 0 → with_integer v g x is ≡ is
onto-none v g x is e = let on = (Decides-int_eq x (pos 0)).1 e in rw on refl

pub onto-one : (v : List ℤ) (g : ℕ) (x : ℤ) (is : List Integer) → int_eq x (pos 0) ≡ false →
    with_integer v g x is ≡ record { class = v; genus = g; value = x } ∷ is
onto-one v g x is off = rw off refl

pub zero-cases : (x : ℤ) → (x ≡ pos 0) ⊎ (int_eq x (pos 0) ≡ false)
zero-cases x = elim (cases_Bool (int_eq x (pos 0))) [
  | inl on ↦ inl ((Decides-int_eq x (pos 0)).0 on)
  | inr off ↦ inr off
]

pub slope-onto : (hs : List ℤ) (w : ℕ) (v : List ℤ) (base : ℕ) (is : List Integer) (xs : List ℤ) → IsAtBase hs w v base →
    AllByRecursion (IsWithinSlope hs w) is → AllByRecursion (IsWithinSlope hs w) (onto v base xs is)
slope-onto hs w v base is [] here slope = slope
slope-onto hs w v base is (x ∷ xs) here slope =
    let rest = slope-onto hs w v base is xs here slope in
    elim (zero-cases x) [
      | inl e ↦ rw (onto-none v (genus_at base (length xs)) x (onto v base xs is) e) rest
      | inr off ↦
          let place = here.place in let degree = here.degree in
          rw (onto-one v (genus_at base (length xs)) x (onto v base xs is) off)
          (record { positive = degree; slope = omega (arith, ints) }, rest)
    ]

abbrev pub signed : Factor → ℤ
signed f = neg_ℤ f.power

lead-signed : (fs : List Factor) (p : Place) → lead fs p ≡ lead_by signed fs p
lead-signed [] p = refl
lead-signed (f ∷ fs) p =
    ap (λ z. (z *ℤ unit (difference p f.at)) +ℤ lead fs p) (power_at-one f.power) ∙
    ap (λ z. (neg_ℤ f.power *ℤ unit (difference p f.at)) +ℤ z) (lead-signed fs p)

size-one : (z : ℤ) → power_at (neg_ℤ (pos (unsigned_abs z))) 1 ≡ pos (unsigned_abs z)
size-one z = power_at-one (neg_ℤ (pos (unsigned_abs z))) ∙ omega (arith, ints)

lead-sized : (fs : List Factor) (p : Place) → lead (map without_sign fs) p ≡ lead_by power_size fs p
lead-sized [] p = refl
lead-sized (f ∷ fs) p =
    ap (λ z. (z *ℤ unit (difference p f.at)) +ℤ lead (map without_sign fs) p) (size-one f.power) ∙
    ap (λ z. (pos (unsigned_abs f.power) *ℤ unit (difference p f.at)) +ℤ z) (lead-sized fs p)

by-signed : (hs : List ℤ) (i : Integer) → IsByPower hs i signed neg_ℤ
by-signed hs i = record { value = λ m e. refl; none = refl }

by-sized : (hs : List ℤ) (i : Integer) → IsByPower hs i power_size (λ e. pos (unsigned_abs e))
by-sized hs i = record { value = λ m e. refl; none = refl }

module _ (hs : List ℤ) (w : ℕ) (v : List ℤ) (base : ℕ) (here : IsAtBase hs w v base) (js : List Integer) (x : ℤ) (s g t : ℕ)
    (room : s + g ≡ base + 1) (slope : AllByRecursion (IsWithinSlope hs w)
    (record { class = v; genus = g; value = x } ∷ js)) where
  abbrev new : Integer
  new = record { class = v; genus = g; value = x }

  abbrev p : Place
  p = at_weight hs w v t

  weight-is : exponent_at hs w v t ≡ pos t -ℤ pos base
  weight-is = let place = here.place in omega (arith, ints)

  high : AllByRecursion (IsHigh (degree_of hs v)) (factors_by hs g t new)
  high = factors-high hs g t new (degree_of hs v) refl here.degree (omega (arith, ints))

  high-sized : AllByRecursion (IsHigh (degree_of hs v)) (map without_sign (factors_by hs g t new))
  high-sized = all-map (IsHigh (degree_of hs v)) (IsHigh (degree_of hs v)) without_sign
      (λ f h. record { rising = h.rising; high = h.high }) (factors_by hs g t new) high

  pub product-one : katz_by_weight hs w (new ∷ js) v t ≡ katz_by_weight hs w js v t -ℤ added s g x t
  product-one =
      let parts = first_order (factors_by hs g t new) (factors hs t js) p high in
      let own = own-added hs new signed neg_ℤ (by-signed hs new) base s t (exponent_at hs w v t) weight-is g t refl
      (omega arith) room in
      katz_by_weight-product hs w t (new ∷ js) v t slope (omega arith) ∙
      (parts ∙
      (ap (λ z. product (factors hs t js) p +ℤ z) (lead-signed (factors_by hs g t new) p ∙ own) ∙
      (ap (λ z. z +ℤ neg_ℤ (added s g x t)) (sym (katz_by_weight-product hs w t js v t slope.1 (omega arith))) ∙
      omega (arith, ints))))

  pub sizes-one : absolute_product hs (new ∷ js) v (exponent_at hs w v t) ≡
      absolute_product hs js v (exponent_at hs w v t) +ℤ pos (unsigned_abs (added s g x t))
  sizes-one =
      let n = exponent_at hs w v t in
      let parts = first_order (map without_sign (factors_by hs g t new)) (map without_sign (factors hs t js)) p high-sized in
      let own = own-added hs new power_size (λ e. pos (unsigned_abs e)) (by-sized hs new) base s t n weight-is g t refl
      (omega arith) room in
      product-absolute hs w (new ∷ js) v n t slope (omega (arith, ints, place-weight hs w v t)) ∙
      (ap (λ fs. product fs p) (map-append without_sign (factors_by hs g t new) (factors hs t js)) ∙
      (parts ∙
      (ap (λ z. product (map without_sign (factors hs t js)) p +ℤ z) (lead-sized (factors_by hs g t new) p ∙ own) ∙
      ap (λ z. z +ℤ pos (unsigned_abs (added s g x t))) (sym (product-absolute hs w js v n t slope.1 (omega
      (arith, ints, place-weight hs w v t)))))))

pub first_order_sum : FirstOrder
first_order_sum hs w v base is [] t here slope short = omega (arith, ints)
first_order_sum hs w v base is (x ∷ xs) t here slope short =
    let s = length xs in let g = genus_at base s in let js = onto v base xs is in
    let rest = first_order_sum hs w v base is xs t here slope (omega arith) in
    elim (zero-cases x) [
      | inl e ↦
          let none : added s g x t ≡ pos 0 = ap (λ z. added s g z t) e ∙ added-none s g t in
          ap (λ ks. katz_by_weight hs w ks v t) (onto-none v g x js e) ∙ omega (arith, ints, rest, none)
      | inr off ↦
          let within = rw (onto-one v g x js off) at (slope-onto hs w v base is (x ∷ xs) here slope) in
          let one = product-one hs w v base here js x s g t (omega arith) within in
          ap (λ ks. katz_by_weight hs w ks v t) (onto-one v g x js off) ∙ omega (arith, ints, rest, one)
    ]

pub first_order_sizes : FirstOrderSizes
first_order_sizes hs w v base is [] t here slope short = omega (arith, ints)
first_order_sizes hs w v base is (x ∷ xs) t here slope short =
    let s = length xs in let g = genus_at base s in let js = onto v base xs is in
    let n = exponent_at hs w v t in
    let rest = first_order_sizes hs w v base is xs t here slope (omega arith) in
    elim (zero-cases x) [
      | inl e ↦
          let none : added s g x t ≡ pos 0 = ap (λ z. added s g z t) e ∙ added-none s g t in
          ap (λ ks. absolute_product hs ks v n) (onto-none v g x js e) ∙ omega (arith, ints, rest, ap unsigned_abs none)
      | inr off ↦
          let within = rw (onto-one v g x js off) at (slope-onto hs w v base is (x ∷ xs) here slope) in
          let one = sizes-one hs w v base here js x s g t (omega arith) within in
          ap (λ ks. absolute_product hs ks v n) (onto-one v g x js off) ∙ omega (arith, ints, rest, one)
    ]
