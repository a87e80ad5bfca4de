-- An integer of a high genus makes the bound wide at its class and exponent 0, and a great slope comes from such an integer.
use Rattle.std.specs.Prelude.{◌≡◌, ◌≢◌, ◌⊎◌, Contains, ℕ, zero, suc, ◌+◌, ◌-◌, ◌*◌, ◌<◌, ◌≤◌, ℤ, pos, negsuc, ◌*ℤ◌, ◌≤ℤ◌, unsigned_abs, int_le, true, List, [], ◌∷◌, length, map, nat_eq}
use Rattle.std.specs.List.{AllByRecursion}
use Rattle.std.proofs.Common.{refl, ap, arith, ◌∙◌, inl, inr}
use Rattle.std.proofs.lemmas.Int.{ints, unsigned_abs-mul}
use Rattle.std.proofs.lemmas.Bool.{cases_eq, cases_lt}
use Rattle.std.proofs.lemmas.Bool.Decides.{nat_tests}
use Rattle.tv_lemmas.specs.Naturals.{as_natural}
use Rattle.tv_lemmas.proofs.Members.{all-contains, all-both, contains-head, contains-later, contains-flat_map}
use Rattle.tv_lemmas.proofs.Naturals.{as_natural-is}
use Rattle.tv_ring.specs.Operations.{limit}
use Rattle.tv_spec_plane.specs.Web.{degree_of}
use Rattle.tv_spec_katz.specs.Binomials.{choose, power_sign}
use Rattle.tv_spec_katz.specs.Places.{place}
use Rattle.tv_spec_katz.specs.Product.{Factor, product}
use Rattle.tv_spec_katz.specs.Katz.{Integer, factor_at, higher_below, higher_exponent, higher_power, factors_by, factors, factor_bound}
use Rattle.tv_spec_katz.specs.Majorant.{without_sign, absolute_product, is_counted_class, majorant_end, majorant}
use Rattle.tv_spec_katz.specs.Relations.{IsInteger}
use Rattle.tv_laws_katz.specs.Further.{IsPositive}
use Rattle.tv_laws_katz.proofs.Powers.{power_sign-size}
use Rattle.tv_laws_integers.proofs.Later.{positives}
use Rattle.tv_laws_integers.proofs.Existence.{each_integer}
use Rattle.tv_laws_integers.proofs.Slopes.{slopes-most}
use Rattle.tv_laws_katz.specs.Weights.{IsWithinSlope}
use Rattle.tv_laws_majorant.specs.Laws.{least_wide_genus, WidePowers, GenusIsWide, WideMajorant, IsWideAmong, SteepIsWide}
use Rattle.tv_laws_majorant.proofs.Central.{central_wide}
use Rattle.tv_laws_majorant.proofs.Leads.{size_of_member, sizes_below, factors-placed, leads_are_bounded}
use Rattle.tv_lemmas.proofs.Tests.{eq-on, most-true}

-- ---- the factor in the middle

higher-has : (hs : List ℤ) (n k : ℕ) (i : Integer) → k < n →
    Contains (higher_below hs n i) (factor_at hs i (higher_exponent i k) (higher_power i k))
higher-has hs zero k i h = absurd (omega arith)
higher-has hs (suc m) k i h =
    elim (cases_eq m k) as (λ _. Contains (higher_below hs (suc m) i) (factor_at hs i (higher_exponent i k) (higher_power i k))) [
      | inl same ↦ contains-head _ _ (higher_below hs m i)
          (ap (λ j. factor_at hs i (higher_exponent i j) (higher_power i j)) same)
      | inr other ↦ contains-later _ _ (higher_below hs m i) (higher-has hs m k i (omega (arith, other)))
    ]

abbrev middle : List ℤ → Integer → Factor
middle hs i = factor_at hs i (higher_exponent i (i.genus - 1)) (higher_power i (i.genus - 1))

middle-by : (hs : List ℤ) (g J : ℕ) (i : Integer) → i.genus ≡ g → 1 ≤ g → Contains (factors_by hs g J i) (middle hs i)
middle-by hs zero J i e up = absurd (omega arith)
middle-by hs (suc g) J i e up = higher-has hs (2 * i.genus - 1) (i.genus - 1) i (omega arith)

middle-among : (hs : List ℤ) (J : ℕ) (is : List Integer) (i : Integer) → Contains is i → 1 ≤ i.genus →
    Contains (factors hs J is) (middle hs i)
middle-among hs J is i among up =
    contains-flat_map (λ j. factors_by hs j.genus J j) i (middle hs i) is among (middle-by hs i.genus J i refl up)

size-least : (z : ℤ) → z ≢ pos 0 → 1 ≤ unsigned_abs z
size-least (pos zero) other = absurd (other refl)
size-least (pos (suc n)) other = omega arith
size-least (negsuc n) other = omega arith

middle-size : (i : Integer) → i.value ≢ pos 0 → 1 ≤ i.genus →
    choose (2 * (i.genus - 1)) (i.genus - 1) ≤ unsigned_abs (higher_power i (i.genus - 1))
middle-size i other up =
    let k = i.genus - 1 in
    let c = choose (2 * k) k in
    let upper : 2 * i.genus - 2 ≡ 2 * k = omega arith in
    let value = power_sign-size (k + i.genus) i.value in
    let whole : unsigned_abs (higher_power i k) ≡ unsigned_abs i.value * c =
    ap (λ m. unsigned_abs ((power_sign (k + i.genus) *ℤ i.value) *ℤ pos (choose m k))) upper ∙
    (unsigned_abs-mul (power_sign (k + i.genus) *ℤ i.value) (pos c) ∙ ap (λ a. a * c) value) in
    let least : 1 * c ≤ unsigned_abs i.value * c = times_least (unsigned_abs i.value) c (size-least i.value other) in
    omega (arith, whole, least)
  where
    times_least : (a c : ℕ) → 1 ≤ a → 1 * c ≤ a * c
    times_least zero c h = absurd (omega arith)
    times_least (suc a) c h = omega arith

-- ---- the bound there

size-above : (c : ℕ) (z : ℤ) → pos c ≤ℤ z → c ≤ unsigned_abs z
size-above c (pos n) h = omega (arith, ints)
size-above c (negsuc n) h = absurd (omega (arith, ints))

absolute-least : (hs : List ℤ) (is : List Integer) (i : Integer) → AllByRecursion (IsPositive hs) is → Contains is i →
    i.value ≢ pos 0 → 1 ≤ i.genus →
    choose (2 * (i.genus - 1)) (i.genus - 1) ≤ unsigned_abs (absolute_product hs is i.class (pos 0))
unfolding absolute_product
absolute-least hs is i positive among other up =
    let J = factor_bound hs is i.class (pos 0) in
    let lead = sizes_below hs (factors hs J is) i.class (pos 0) (factors-placed hs J is positive) in
    let own = size_of_member (factors hs J is) (middle hs i) i.class (pos 0) (middle-among hs J is i among up) refl
    (omega (arith, ints)) in
    let size = middle-size i other up in
    size-above (choose (2 * (i.genus - 1)) (i.genus - 1))
    (product (map without_sign (factors hs J is)) (place hs i.class (pos 0)))
    (omega (arith, ints))

twice-least : (d a : ℕ) → 1 ≤ d → 2 * a ≤ (2 * d) * a
twice-least zero a h = absurd (omega arith)
twice-least (suc d) a h = omega arith

pub genus_is_wide : GenusIsWide
genus_is_wide D N f is i order among high =
    let own = all-contains (IsInteger D f.heights) is i (each_integer D f.heights is order) among in
    let A = unsigned_abs (absolute_product f.heights is i.class (pos 0)) in
    let d = as_natural (degree_of f.heights i.class) in
    let up = own.positive.degree in
    let positive : 1 ≤ d = omega (arith, ints, as_natural-is (degree_of f.heights i.class) (omega (arith, ints))) in
    let least = absolute-least f.heights is i (positives D f.heights is order) among own.value (omega arith) in
    omega (arith, central_wide (i.genus - 1) (omega arith), twice-least d A positive)

pub wide_powers : WidePowers
wide_powers N f w is v n J within low positive wide =
    let A = unsigned_abs (absolute_product f.heights is v n) in
    let d = as_natural (degree_of f.heights v) in
    let up : 1 ≤ d = omega (arith, ints, as_natural-is (degree_of f.heights v) (omega (arith, ints))) in
    let lead = leads_are_bounded f.heights w is v n J within low in
    let least = size-above (suc limit) (absolute_product f.heights is v n) (omega (arith, ints)) in
    omega (arith, twice-least d A up)

-- ---- the majorant there

counted-true : (D : ℕ) (hs : List ℤ) (i : Integer) → IsInteger D hs i → is_counted_class D hs i.class ≡ true
counted-true D hs i own =
    let up = own.positive.degree in
    let entries : nat_eq (length i.class) (length hs) ≡ true = eq-on (length i.class) (length hs) own.positive.entries in
    let least = most-true (pos 0) (degree_of hs i.class) (omega (arith, ints)) in
    rw (entries, least) (most-true (degree_of hs i.class) (pos D) own.within)

pub wide_majorant : WideMajorant
unfolding majorant
wide_majorant D N f is i order among high within =
    let own = all-contains (IsInteger D f.heights) is i (each_integer D f.heights is order) among in
    let counts = counted-true D f.heights i own in
    let ends = most-true (pos 0) (majorant_end D N f is) (omega (arith, ints)) in
    rw (counts, ends) (genus_is_wide D N f is i order among high)

-- ---- a great slope

abbrev IsLow : Integer → Type 0
IsLow i = i.genus < least_wide_genus

-- some genus is high, or all are low
high_or_low : (is : List Integer) → IsWideAmong is ⊎ AllByRecursion IsLow is
high_or_low [] = inr tt
high_or_low (i ∷ is) = elim (cases_lt i.genus least_wide_genus) as
    (λ _. IsWideAmong (i ∷ is) ⊎ AllByRecursion IsLow (i ∷ is)) [
      | inl low ↦ elim (high_or_low is) as (λ _. IsWideAmong (i ∷ is) ⊎ AllByRecursion IsLow (i ∷ is)) [
        | inl high ↦ inl (record {
          integer = high.integer;
          among = contains-later high.integer i is high.among;
          genus = high.genus;
        })
        | inr all ↦ inr (low, all)
      ]
      | inr high ↦ inl (record { integer = i; among = contains-head i i is refl; genus = omega arith })
    ]

low-within : (hs : List ℤ) (i : Integer) → IsPositive hs i → IsLow i → IsWithinSlope hs (least_wide_genus - 2) i
low-within hs i positive low = record { positive = positive; slope = omega (arith, ints, positive, low) }

pub steep_is_wide : SteepIsWide
steep_is_wide D hs is order steep = elim (high_or_low is) as (λ _. IsWideAmong is) [
  | inl high ↦ high
  | inr low ↦
      let within = all-both (IsPositive hs) IsLow (IsWithinSlope hs (least_wide_genus - 2)) (low-within hs) is
      (positives D hs is order) low in
      let flat = slopes-most D hs (least_wide_genus - 2) is order within in
      absurd (omega arith)
]
