-- The slope of the integers is that of the series: the least c such that each series begins at - c * degree or above.
use Rattle.std.proofs.Common.{◌≡◌, inl, inr, ℕ, ◌+◌, ◌-◌, ◌*◌, ◌≤◌, max, ℤ, pos, ◌+ℤ◌, ◌*ℤ◌, ◌≤ℤ◌, ◌<ℤ◌, List, [], ◌∷◌, refl, sym, ◌∙◌, ap, arith, mul_comm, mul-add}
use Rattle.std.proofs.lemmas.Int.{ints, by_lt_z}
use Rattle.std.proofs.lemmas.Bool.{cases_lt}
use Rattle.std.proofs.lemmas.Bool.Decides.{Decides-int_eq}
use Rattle.std.proofs.lemmas.Nat.{mul-le}
use Rattle.std.specs.List.{AllByRecursion}
use Rattle.std.specs.Ordering.{int_eq}
use Rattle.tv_lemmas.proofs.Members.{all-onto, all-both}
use Rattle.tv_lemmas.proofs.Signs.{mul-nonneg-nonneg}
use Rattle.tv_lemmas.specs.Naturals.{as_natural}
use Rattle.tv_laws_series.proofs.NormalForm.{bool_cases}
use Rattle.tv_spec_plane.specs.Web.{degree_of}
use Rattle.tv_spec_series.specs.Families.{Family}
use Rattle.tv_spec_katz.specs.Katz.{Integer}
use Rattle.tv_spec_katz.specs.Integers.{Agrees}
use Rattle.tv_spec_katz.specs.Majorant.{rounded_up, slope_of, greatest_slope}
use Rattle.tv_spec_katz.specs.Relations.{ComesLater, IsInteger, AreOrdered, AreIntegers}
use Rattle.tv_laws_katz.specs.Further.{IsPositive, own_exponent}
use Rattle.tv_laws_katz.specs.Weights.{IsWithinSlope}
use Rattle.tv_laws_katz.proofs.FurtherInteger.{new_integer, unchanged}
use Rattle.tv_laws_katz.proofs.LargerBound.{vanishes_by_slope}
use Rattle.tv_laws_integers.specs.Reading.{BeginsAbove}
use Rattle.tv_laws_integers.proofs.Later.{earlier_place, positives}
use Rattle.tv_laws_integers.proofs.Existence.{each_integer, own_place}
use Rattle.tv_lemmas.proofs.Naturals.{as_natural-is}

-- ---- the integers are within the slope of the series

abbrev pub OwnAgrees : Family ℤ → List Integer → Integer → Type 0
OwnAgrees f is k = Agrees f is k.class (own_exponent k)

module _ (D : ℕ) (f : Family ℤ) (c : ℕ) (begins : BeginsAbove D f c) where
  without_last : (i : Integer) (is : List Integer) → AreOrdered D f.heights (i ∷ is) → AllByRecursion (OwnAgrees f (i ∷ is)) is
      → AllByRecursion (OwnAgrees f is) is
  without_last i is order all = all-both (ComesLater f.heights i) (OwnAgrees f (i ∷ is)) (OwnAgrees f is)
      (λ k b e. sym (unchanged f.heights i is k.class (own_exponent k) (positives D f.heights (i ∷ is) order)
      (earlier_place f.heights i k b)) ∙ e) is order.1.0 all

  last_within : (i : Integer) (is : List Integer) → AreOrdered D f.heights (i ∷ is) → OwnAgrees f (i ∷ is) i
      → AllByRecursion (IsWithinSlope f.heights c) is → IsWithinSlope f.heights c i
  last_within i is order own within = by_lt_z ((pos c *ℤ degree_of f.heights i.class) +ℤ pos 1) (pos i.genus)
      (λ steep.
      let up = order.0.positive.degree in
      let low : (own_exponent i +ℤ (pos c *ℤ degree_of f.heights i.class)) <ℤ pos 0 = omega (arith, ints) in
      let none = vanishes_by_slope f.heights c is i.class (own_exponent i) within low in
      let begun = begins i.class (own_exponent i) (record { positive = order.0.positive; within = order.0.within }) low in
      let sum = new_integer f.heights i is (positives D f.heights (i ∷ is) order) in
      absurd (order.0.value (omega (arith, ints))))
      (λ flat. record { positive = (positives D f.heights (i ∷ is) order).0; slope = flat })

  pub within_by : (is : List Integer) → AreOrdered D f.heights is → AllByRecursion (OwnAgrees f is) is
      → AllByRecursion (IsWithinSlope f.heights c) is
  within_by [] order all = tt
  within_by (i ∷ is) order all =
      let rest = within_by is order.1.1 (without_last i is order all.1) in
      (last_within i is order all.0 rest, rest)

  pub integers_within : (is : List Integer) → AreIntegers D f is → AllByRecursion (IsWithinSlope f.heights c) is
  integers_within is are = within_by is are.ordered
      (all-onto (IsInteger D f.heights) (OwnAgrees f is) (λ k i. are.agrees k.class (own_exponent k) (own_place D f k i)) is
      (each_integer D f.heights is are.ordered))

-- ---- and the series within that of the integers

pub series_within : (D : ℕ) (f : Family ℤ) (c : ℕ) (is : List Integer) → AreIntegers D f is
    → AllByRecursion (IsWithinSlope f.heights c) is → BeginsAbove D f c
series_within D f c is are within v n class low =
    let up = class.positive.degree in
    let weight : pos 0 ≤ℤ (pos c *ℤ degree_of f.heights v) = mul-nonneg-nonneg (pos c) (degree_of f.heights v)
    (omega (arith, ints)) (omega (arith, ints)) in
    sym (are.agrees v n (record { entries = class.positive.entries; degree = class.within; exponent = omega (arith, ints) }))
    ∙ vanishes_by_slope f.heights c is v n within low

-- ---- the greatest slope is the least number with that

rounded_up-most : (a d c : ℕ) → 1 ≤ d → a ≤ c * d → rounded_up a d ≤ c
rounded_up-most a d c up h = elim (cases_lt c (rounded_up a d)) as (λ _. rounded_up a d ≤ c) [
  | inl less ↦
      let more : d * (c + 1) ≤ d * rounded_up a d = mul-le d (c + 1) d (rounded_up a d) (omega arith) (omega arith) in
      let split : d * (c + 1) ≡ d * c + d * 1 = mul-add d c 1 in
      let turned = mul_comm c d in
      absurd (omega arith)
  | inr most ↦ most
]

rounded_up-least : (a d : ℕ) → 1 ≤ d → a ≤ rounded_up a d * d
rounded_up-least a d up = let turned = mul_comm (rounded_up a d) d in omega arith

module _ (hs : List ℤ) (c : ℕ) (i : Integer) (positive : IsPositive hs i) where
  degree : degree_of hs i.class ≡ pos (as_natural (degree_of hs i.class))
  degree = as_natural-is (degree_of hs i.class) (omega (arith, ints))

  product : pos c *ℤ degree_of hs i.class ≡ pos (c * as_natural (degree_of hs i.class))
  product = ap (λ z. pos c *ℤ z) degree

  slope-most : IsWithinSlope hs c i → slope_of hs i ≤ c
  slope-most within = let slope = within.slope in
      rounded_up-most (i.genus - 1) (as_natural (degree_of hs i.class)) c (omega (arith, ints, degree)) (omega (arith, ints, product))

  slope-least : slope_of hs i ≤ c → IsWithinSlope hs c i
  slope-least h =
      let d = as_natural (degree_of hs i.class) in
      let least = rounded_up-least (i.genus - 1) d (omega (arith, ints, degree)) in
      let more : rounded_up (i.genus - 1) d * d ≤ c * d = mul-le (rounded_up (i.genus - 1) d) d c d h (omega arith) in
      record { positive = positive; slope = omega (arith, ints, product, degree) }

greatest-cons : (D : ℕ) (hs : List ℤ) (i : Integer) (is : List Integer) → IsInteger D hs i
    → greatest_slope hs (i ∷ is) ≡ max (slope_of hs i) (greatest_slope hs is)
greatest-cons D hs i is some = bool_cases (int_eq i.value (pos 0))
    (λ b. absurd (some.value ((Decides-int_eq i.value (pos 0)).0 b)))
    (λ b. rw b refl)

pub slopes-most : (D : ℕ) (hs : List ℤ) (c : ℕ) (is : List Integer) → AreOrdered D hs is
    → AllByRecursion (IsWithinSlope hs c) is → greatest_slope hs is ≤ c
slopes-most D hs c [] order all = omega arith
slopes-most D hs c (i ∷ is) order all =
    let first = slope-most hs c i all.0.positive all.0 in
    let rest = slopes-most D hs c is order.1.1 all.1 in
    rw (greatest-cons D hs i is order.0) (omega arith)

pub slopes-least : (D : ℕ) (hs : List ℤ) (c : ℕ) (is : List Integer) → AreOrdered D hs is → greatest_slope hs is ≤ c
    → AllByRecursion (IsWithinSlope hs c) is
slopes-least D hs c [] order h = tt
slopes-least D hs c (i ∷ is) order h =
    let step = greatest-cons D hs i is order.0 in
    (slope-least hs c i (positives D hs (i ∷ is) order).0 (omega arith), slopes-least D hs c is order.1.1 (omega arith))
