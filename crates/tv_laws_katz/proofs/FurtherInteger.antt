-- The factors of one integer to first order: its own place, where they add its value, and the places before it, where they
-- add nothing.
use Rattle.std.specs.Prelude.{◌≡◌, ℕ, zero, suc, ◌+◌, ◌-◌, ◌*◌, ◌<◌, ◌≤◌, ℤ, pos, ◌+ℤ◌, ◌-ℤ◌, ◌*ℤ◌, neg_ℤ, ◌≤ℤ◌, ◌<ℤ◌, unsigned_abs, true, List, [], ◌∷◌}
use Rattle.std.specs.List.{AllByRecursion}
use Rattle.std.specs.Ordering.{int_eq}
use Rattle.std.proofs.Common.{refl, sym, ap, arith, ◌∙◌, inl, inr}
use Rattle.std.proofs.Math.IntN.{*ℤ-zero}
use Rattle.std.proofs.lemmas.Int.{ints}
use Rattle.std.proofs.lemmas.Bool.{and_parts}
use Rattle.std.proofs.lemmas.Bool.Decides.{Decides-int_eq}
use Rattle.tv_lemmas.proofs.Members.{all-onto}
use Rattle.tv_lemmas.proofs.Integers.{mul-add, neg-mul}
use Rattle.tv_spec_plane.specs.Web.{degree_of}
use Rattle.tv_spec_boxes.specs.Classes.{EntriesBefore}
use Rattle.tv_spec_katz.specs.Binomials.{power_sign, power_at}
use Rattle.tv_spec_katz.specs.Places.{Place, place, class_difference, difference, is_zero_class, unit}
use Rattle.tv_spec_katz.specs.Product.{Factor, product}
use Rattle.tv_spec_katz.specs.Katz.{Integer, factor_at, genus_zero, higher_below, higher_genus, higher_exponent, higher_power, factors_by, factors, factor_bound, katz}
use Rattle.tv_laws_katz.specs.Further.{IsPositive, own_exponent, NewInteger, IsEarlier, Unchanged}
use Rattle.tv_laws_katz.proofs.LargerBound.{larger_factors}
use Rattle.tv_laws_katz.proofs.Leading.{lead, lead-none, IsHigh, first_order}
use Rattle.tv_lemmas.proofs.Multiplied.{one-mul, mul-one}
use Rattle.tv_laws_katz.proofs.Powers.{power_at-one, twice_signed, power_sign-same, power_sign-next, power_sign-square, choose-whole}
use Rattle.tv_laws_katz.proofs.Units.{IsUnit, unit-one, unit-none}

-- what is true of each factor of the integer at every exponent from its least one on is true of all
pub record IsFactorOf (hs : List ℤ) (i : Integer) (f : Factor) : Type 0 where
  pub exponent : ℤ
  pub power : ℤ
  pub is : f ≡ factor_at hs i exponent power
  pub least : own_exponent i ≤ℤ exponent

zero-are : (hs : List ℤ) (J : ℕ) (i : Integer) → AllByRecursion (IsFactorOf hs i) (genus_zero hs J i)
zero-are hs zero i = tt
zero-are hs (suc J) i =
    (record { exponent = pos (suc J); power = pos (suc J) *ℤ i.value; is = refl; least = omega (arith, ints) }, zero-are hs J i)

higher-are : (hs : List ℤ) (n : ℕ) (i : Integer) → n ≤ 2 * i.genus - 1 → AllByRecursion (IsFactorOf hs i) (higher_below hs n i)
higher-are hs zero i h = tt
higher-are hs (suc k) i h =
    (record { exponent = higher_exponent i k; power = higher_power i k; is = refl; least = omega (arith, ints) }, higher-are hs k i (omega arith))

pub factors-are : (hs : List ℤ) (g J : ℕ) (i : Integer) → i.genus ≡ g → AllByRecursion (IsFactorOf hs i) (factors_by hs g J i)
factors-are hs zero J i e = zero-are hs J i
factors-are hs (suc g) J i e = higher-are hs (2 * i.genus - 1) i (omega arith)

pub same-degree : (hs : List ℤ) (i : Integer) (f : Factor) → IsFactorOf hs i f → f.at.degree ≡ degree_of hs i.class
same-degree hs i f of = ap (λ (x : Factor). x.at.degree) of.is

pub factors-high : (hs : List ℤ) (g J : ℕ) (i : Integer) (d : ℤ) → i.genus ≡ g → IsPositive hs i → d ≤ℤ degree_of hs i.class →
    AllByRecursion (IsHigh d) (factors_by hs g J i)
factors-high hs g J i d e positive h = all-onto (IsFactorOf hs i) (IsHigh d)
    (λ f of. record { rising = omega (arith, ints, same-degree hs i f of); high = omega (arith, ints, same-degree hs i f of) }) (factors_by hs g J i) (factors-are hs g J i e)

-- the lists of factors of the two products, for one J that is large enough for both
katz-further : (hs : List ℤ) (i : Integer) (is : List Integer) (v : List ℤ) (n : ℤ) → AllByRecursion (IsPositive hs) (i ∷ is) →
    degree_of hs v ≤ℤ degree_of hs i.class →
    (J : ℕ) × (katz hs (i ∷ is) v n ≡ katz hs is v n +ℤ (power_sign (unsigned_abs n) *ℤ lead (factors_by hs i.genus (suc J) i) (place hs v n)))
katz-further hs i is v n positive h =
    let J = factor_bound hs (i ∷ is) v n + factor_bound hs is v n in
    let p = place hs v n in (
      J,
      larger_factors hs (i ∷ is) v n (suc J) positive (omega arith) ∙
          (ap (λ z. power_sign (unsigned_abs n) *ℤ z) (first_order (factors_by hs i.genus (suc J) i) (factors hs (suc J) is) p (factors-high hs i.genus (suc J) i (degree_of hs v) refl positive.0 h)) ∙
          (mul-add (power_sign (unsigned_abs n)) (product (factors hs (suc J) is) p) (lead (factors_by hs i.genus (suc J) i) p) ∙
          ap (λ z. z +ℤ (power_sign (unsigned_abs n) *ℤ lead (factors_by hs i.genus (suc J) i) p)) (sym (larger_factors hs is v n (suc J) positive.1 (omega arith))))),
    )

-- at earlier places no factor stands
entries-differ : (u v : List ℤ) → EntriesBefore u v → is_zero_class (class_difference u v) ≡ true → ⊥
entries-differ [] v before e = before
entries-differ (x ∷ u) [] before e = before
entries-differ (x ∷ u) (y ∷ v) before e =
    let parts = and_parts (int_eq (x -ℤ y) (pos 0)) (is_zero_class (class_difference u v)) e in
    let same = (Decides-int_eq (x -ℤ y) (pos 0)).0 parts.0 in
    elim before [
      | inl less ↦ absurd (omega (arith, ints, same))
      | inr rest ↦ entries-differ u v rest.1 parts.1
    ]

earlier-apart : (hs : List ℤ) (i : Integer) (v : List ℤ) (n : ℤ) → IsEarlier hs i v n → (f : Factor) → IsFactorOf hs i f →
    IsUnit (difference (place hs v n) f.at) → ⊥
earlier-apart hs i v n (inl (inl less)) f of is = absurd (omega (arith, ints, is.degree, same-degree hs i f of))
earlier-apart hs i v n (inl (inr same)) f of is =
    entries-differ v i.class same.1 (ap (λ (x : Factor). is_zero_class (class_difference v x.at.class)) (sym of.is) ∙ is.class)
earlier-apart hs i v n (inr own) f of is =
    absurd (omega (arith, ints, is.exponent, ap (λ (x : Factor). x.at.exponent) of.is, of.least, own.1))

earlier-degree : (hs : List ℤ) (i : Integer) (v : List ℤ) (n : ℤ) → IsEarlier hs i v n → degree_of hs v ≤ℤ degree_of hs i.class
earlier-degree hs i v n (inl (inl less)) = omega (arith, ints)
earlier-degree hs i v n (inl (inr same)) = omega (arith, ints, same.0)
earlier-degree hs i v n (inr own) = omega (arith, ints, ap (degree_of hs) own.0)

pub unchanged : Unchanged
unchanged hs i is v n positive earlier =
    let further = katz-further hs i is v n positive (earlier-degree hs i v n earlier) in
    let none = lead-none (factors_by hs i.genus (suc further.0) i) (place hs v n) (all-onto (IsFactorOf hs i) (λ f. IsUnit (difference (place hs v n) f.at) → ⊥) (earlier-apart hs i v n earlier) (factors_by hs i.genus (suc further.0) i) (factors-are hs i.genus (suc further.0) i refl)) in
    further.1 ∙ omega (arith, ints, ap (λ z. power_sign (unsigned_abs n) *ℤ z) none, *ℤ-zero (power_sign (unsigned_abs n)))

-- at its own place one factor stands: in genus 0 that of y, in a higher genus that of the lowest power of y
pub zero-class : (v : List ℤ) → is_zero_class (class_difference v v) ≡ true
zero-class [] = refl
zero-class (x ∷ v) =
    let none : x -ℤ x ≡ pos 0 = omega (arith, ints) in
    rw (none, zero-class v) refl

at-own : (hs : List ℤ) (i : Integer) (m : ℤ) → m ≡ own_exponent i →
    unit (difference (place hs i.class (own_exponent i)) (place hs i.class m)) ≡ pos 1
at-own hs i m here = unit-one _ (record { degree = omega (arith, ints); class = zero-class i.class; exponent = omega (arith, ints) })

apart-own : (hs : List ℤ) (i : Integer) (f : Factor) → own_exponent i <ℤ f.at.exponent →
    IsUnit (difference (place hs i.class (own_exponent i)) f.at) → ⊥
apart-own hs i f above is = absurd (omega (arith, ints, is.exponent))

-- the first factor's part, where it stands at the place
lead-here : (f : Factor) (fs : List Factor) (p : Place) → unit (difference p f.at) ≡ pos 1 →
    lead (f ∷ fs) p ≡ neg_ℤ f.power +ℤ lead fs p
lead-here f fs p here = ap (λ z. (power_at f.power 1 *ℤ z) +ℤ lead fs p) here ∙
    ap (λ z. z +ℤ lead fs p) (mul-one (power_at f.power 1) ∙ power_at-one f.power)

-- and where it doesn't
lead-apart : (f : Factor) (fs : List Factor) (p : Place) → (IsUnit (difference p f.at) → ⊥) → lead (f ∷ fs) p ≡ lead fs p
lead-apart f fs p apart =
    omega (arith, ints, ap (λ z. power_at f.power 1 *ℤ z) (unit-none (difference p f.at) apart), *ℤ-zero (power_at f.power 1))

zero-lead : (hs : List ℤ) (J : ℕ) (i : Integer) → i.genus ≡ 0 →
    lead (genus_zero hs (suc J) i) (place hs i.class (own_exponent i)) ≡ neg_ℤ i.value
zero-lead hs zero i e =
    lead-here (factor_at hs i (pos 1) (pos 1 *ℤ i.value)) [] (place hs i.class (own_exponent i)) (at-own hs i (pos 1) (omega (arith, ints))) ∙
    omega (arith, ints, one-mul i.value)
zero-lead hs (suc J) i e =
    lead-apart (factor_at hs i (pos (suc (suc J))) (pos (suc (suc J)) *ℤ i.value)) (genus_zero hs (suc J) i) (place hs i.class (own_exponent i))
    (apart-own hs i (factor_at hs i (pos (suc (suc J))) (pos (suc (suc J)) *ℤ i.value)) (omega (arith, ints))) ∙ zero-lead hs J i e

higher-apart : (hs : List ℤ) (n : ℕ) (i : Integer) → n ≤ 2 * i.genus - 2 →
    AllByRecursion (λ f. IsUnit (difference (place hs i.class (own_exponent i)) f.at) → ⊥) (higher_below hs n i)
higher-apart hs zero i h = tt
higher-apart hs (suc k) i h =
    (apart-own hs i (factor_at hs i (higher_exponent i k) (higher_power i k)) (omega (arith, ints)), higher-apart hs k i (omega arith))

-- the power of the last factor of a higher genus
last-power : (i : Integer) → 0 < i.genus → neg_ℤ (higher_power i (2 * i.genus - 2)) ≡ power_sign (suc i.genus) *ℤ i.value
last-power i h =
    let k = 2 * i.genus - 2 in
    let sign : power_sign (k + i.genus) ≡ power_sign i.genus = power_sign-same (k + i.genus) i.genus (omega arith) in
    let here : higher_power i k ≡ power_sign i.genus *ℤ i.value = ap (λ c. (power_sign (k + i.genus) *ℤ i.value) *ℤ pos c) (choose-whole k) ∙ (mul-one (power_sign (k + i.genus) *ℤ i.value) ∙ ap (λ s. s *ℤ i.value) sign) in
    ap neg_ℤ here ∙ (sym (neg-mul (power_sign i.genus) i.value) ∙ ap (λ s. s *ℤ i.value) (sym (power_sign-next i.genus)))

higher-lead : (hs : List ℤ) (i : Integer) → 0 < i.genus →
    lead (higher_genus hs i) (place hs i.class (own_exponent i)) ≡ power_sign (suc i.genus) *ℤ i.value
higher-lead hs i h =
    let k = 2 * i.genus - 2 in
    let p = place hs i.class (own_exponent i) in
    let count : 2 * i.genus - 1 ≡ suc k = omega arith in
    ap (λ n. lead (higher_below hs n i) p) count ∙
    (lead-here (factor_at hs i (higher_exponent i k) (higher_power i k)) (higher_below hs k i) p (at-own hs i (higher_exponent i k) (omega (arith, ints))) ∙
    omega (arith, ints, lead-none (higher_below hs k i) p (higher-apart hs k i (omega arith)), last-power i h))

size-negative : (z : ℤ) (g : ℕ) → z ≡ neg_ℤ (pos g) → unsigned_abs z ≡ g
size-negative z zero e = ap unsigned_abs e
size-negative z (suc g) e = ap unsigned_abs e

-- with the sign of the power of q in front, in both cases
own-lead : (hs : List ℤ) (g J : ℕ) (i : Integer) → i.genus ≡ g →
    power_sign (unsigned_abs (own_exponent i)) *ℤ lead (factors_by hs g (suc J) i) (place hs i.class (own_exponent i)) ≡ i.value
own-lead hs zero J i e =
    let one : own_exponent i ≡ pos 1 = omega (arith, ints) in
    ap (λ z. power_sign (unsigned_abs (own_exponent i)) *ℤ z) (zero-lead hs J i e) ∙ (ap (λ m. power_sign (unsigned_abs m) *ℤ neg_ℤ i.value) one ∙ (neg-mul (pos 1) (neg_ℤ i.value) ∙ omega (arith, ints, one-mul (neg_ℤ i.value))))
own-lead hs (suc g) J i e =
    let size : unsigned_abs (own_exponent i) ≡ g = size-negative (own_exponent i) g (omega (arith, ints)) in
    ap (λ z. power_sign (unsigned_abs (own_exponent i)) *ℤ z) (higher-lead hs i (omega arith)) ∙
    (ap (λ s. s *ℤ (power_sign (suc i.genus) *ℤ i.value)) (power_sign-same (unsigned_abs (own_exponent i)) (suc i.genus) (omega arith)) ∙
    twice_signed (power_sign (suc i.genus)) i.value (power_sign-square (suc i.genus)))

pub new_integer : NewInteger
new_integer hs i is positive =
    let further = katz-further hs i is i.class (own_exponent i) positive (omega (arith, ints)) in
    further.1 ∙ ap (λ z. katz hs is i.class (own_exponent i) +ℤ z) (own-lead hs i.genus further.0 i refl)
