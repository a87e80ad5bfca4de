-- The factors of one integer at its own class: at each exponent one factor stands, or none.
--
-- choose-mirror     binomial(n, a) = binomial(n, b) where a + b = n
-- rows hs i E P n   == the factors of the integer with the exponents E k and the powers P k, for k below n
-- lead_by c fs p    == the sum of c over the factors at the place p
-- none-here, one-here  what they add where none of them stands, and where one does
-- own-added         what the factors of an integer add at a weight
-- added-none        an integer 0 adds nothing
use Rattle.std.specs.Prelude.{◌≡◌, ℕ, zero, suc, ◌+◌, ◌-◌, ◌*◌, ◌<◌, ◌≤◌, ℤ, pos, ◌+ℤ◌, ◌-ℤ◌, ◌*ℤ◌, List, [], ◌∷◌, true, false, nat_lt}
use Rattle.std.proofs.Common.{refl, sym, ap, arith, ◌∙◌, inl, inr}
use Rattle.std.proofs.Math.IntN.{*ℤ-zero, zero-*ℤ}
use Rattle.std.proofs.lemmas.Int.{ints}
use Rattle.std.proofs.lemmas.Bool.{cases_lt}
use Rattle.std.proofs.lemmas.Bool.Decides.{nat_tests}
use Rattle.tv_lemmas.proofs.Integers.{mul-swap}
use Rattle.tv_lemmas.proofs.Multiplied.{one-mul, mul-one}
use Rattle.tv_spec_katz.specs.Binomials.{choose, power_sign}
use Rattle.tv_spec_katz.specs.Places.{Place, place, class_difference, difference, is_zero_class, unit}
use Rattle.tv_spec_katz.specs.Product.{Factor}
use Rattle.tv_spec_katz.specs.Katz.{Integer, factor_at, genus_zero, higher_below, higher_exponent, higher_power, factors_by}
use Rattle.tv_laws_katz.proofs.Powers.{choose-whole, choose-beyond, power_sign-same}
use Rattle.tv_laws_katz.proofs.Units.{unit-one, unit-none}
use Rattle.tv_class_integers.specs.Powers.{power_of, added}
use Rattle.tv_lemmas.proofs.Tests.{below-on, below-off}
use Rattle.tv_laws_katz.proofs.FurtherInteger.{zero-class}

pub choose-mirror : (n a b : ℕ) → n ≡ a + b → choose n a ≡ choose n b
unfolding choose
choose-mirror zero zero zero e = refl
choose-mirror zero zero (suc b) e = absurd (omega arith)
choose-mirror zero (suc a) b e = absurd (omega arith)
choose-mirror (suc n) zero b e = let same : b ≡ suc n = omega arith in rw same (sym (choose-whole (suc n)))
choose-mirror (suc n) (suc a) zero e =
    let same : a ≡ n = omega arith in ap (λ k. choose (suc n) (suc k)) same ∙ choose-whole (suc n)
choose-mirror (suc n) (suc a) (suc b) e = omega (
  arith,
  choose-mirror n a (suc b) (omega arith),
  choose-mirror n (suc a) b
      (omega arith),
)

abbrev pub lead_by : (Factor → ℤ) → List Factor → Place → ℤ
lead_by c [] p = pos 0
lead_by c (f ∷ fs) p = (c f *ℤ unit (difference p f.at)) +ℤ lead_by c fs p

abbrev pub rows : List ℤ → Integer → (ℕ → ℤ) → (ℕ → ℤ) → ℕ → List Factor
rows hs i E P zero = []
rows hs i E P (suc k) = factor_at hs i (E k) (P k) ∷ rows hs i E P k

module _ (hs : List ℤ) (i : Integer) (c : Factor → ℤ) (E P : ℕ → ℤ) (n : ℤ) where
  apart : (k : ℕ) → (E k ≡ n → ⊥) → unit (difference (place hs i.class n) (factor_at hs i (E k) (P k)).at) ≡ pos 0
  apart k off = unit-none _ (λ is. let at = is.exponent in absurd (off (omega (arith, ints))))

  together : (k : ℕ) → E k ≡ n → unit (difference (place hs i.class n) (factor_at hs i (E k) (P k)).at) ≡ pos 1
  together k on = unit-one _ (record { degree = omega (arith, ints); class = zero-class i.class; exponent = omega (arith, ints) })

  pub none-here : (N : ℕ) → ((k : ℕ) → k < N → E k ≡ n → ⊥) → lead_by c (rows hs i E P N) (place hs i.class n) ≡ pos 0
  none-here zero off = refl
  none-here (suc k) off =
      let here = ap (λ z. c (factor_at hs i (E k) (P k)) *ℤ z) (apart k (off k (omega arith))) ∙
      *ℤ-zero (c (factor_at hs i (E k) (P k))) in
      omega (arith, ints, here, none-here k (λ j h. off j (omega arith)))

  pub one-here : (N k : ℕ) → k < N → E k ≡ n → ((j : ℕ) → E j ≡ n → j ≡ k) →
      lead_by c (rows hs i E P N) (place hs i.class n) ≡ c (factor_at hs i (E k) (P k))
  one-here zero k h on only = absurd (omega arith)
  one-here (suc m) k h on only = elim (cases_lt k m) [
    | inl below ↦
        let off = apart m (λ e. let same = only m e in absurd (omega arith)) in
        let here = ap (λ z. c (factor_at hs i (E m) (P m)) *ℤ z) off ∙ *ℤ-zero (c (factor_at hs i (E m) (P m))) in
        omega (arith, ints, here, one-here m k below on only)
    | inr last ↦
        let same : k ≡ m = omega arith in
        let here : c (factor_at hs i (E m) (P m)) *ℤ unit (difference (place hs i.class n) (factor_at hs i (E m)
        (P m)).at) ≡ c (factor_at hs i (E m) (P m)) =
        ap (λ z. c (factor_at hs i (E m) (P m)) *ℤ z) (together m (ap E (sym same) ∙ on)) ∙
        mul-one (c (factor_at hs i (E m) (P m))) in
        let rest = none-here m (λ j l e. let other = only j e in absurd (omega arith)) in
        omega (arith, ints, here, rest) ∙ ap (λ j. c (factor_at hs i (E j) (P j))) (sym same)
  ]

-- both kinds of factors are such
abbrev zero_exponent : ℕ → ℤ
zero_exponent k = pos (suc k)

zero-rows : (hs : List ℤ) (J : ℕ) (i : Integer) → genus_zero hs J i ≡ rows hs i zero_exponent (λ k. pos (suc k) *ℤ i.value) J
zero-rows hs zero i = refl
zero-rows hs (suc J) i = ap (λ fs. factor_at hs i (pos (suc J)) (pos (suc J) *ℤ i.value) ∷ fs) (zero-rows hs J i)

higher-rows : (hs : List ℤ) (N : ℕ) (i : Integer) → higher_below hs N i ≡ rows hs i (higher_exponent i) (higher_power i) N
higher-rows hs zero i = refl
higher-rows hs (suc k) i = ap (λ fs. factor_at hs i (higher_exponent i k) (higher_power i k) ∷ fs) (higher-rows hs k i)

pub added-early : (s g : ℕ) (x : ℤ) (t : ℕ) → t < s → added s g x t ≡ pos 0
added-early s g x t h = rw (below-on t s h) refl

pub added-late : (s g : ℕ) (x : ℤ) (t : ℕ) → s ≤ t → added s g x t ≡ power_of g (t - s) x
added-late s g x t h = rw (below-off t s h) refl

scaled-none : (a : ℤ) (m : ℕ) → (a *ℤ pos 0) *ℤ pos m ≡ pos 0
scaled-none a m = ap (λ z. z *ℤ pos m) (*ℤ-zero a) ∙ zero-*ℤ (pos m)

power-none : (g j : ℕ) → power_of g j (pos 0) ≡ pos 0
power-none zero j = scaled-none (pos 1) (j + 1)
power-none (suc h) j = scaled-none (power_sign (j + suc h)) (choose (2 * h) j)

pub added-none : (s g t : ℕ) → added s g (pos 0) t ≡ pos 0
added-none s g t = elim (cases_lt t s) [
  | inl early ↦ added-early s g (pos 0) t early
  | inr late ↦ added-late s g (pos 0) t late ∙ power-none g (t - s)
]

-- a value of factors that is one of their powers, and 0 for the power 0
pub record IsByPower (hs : List ℤ) (i : Integer) (c : Factor → ℤ) (C : ℤ → ℤ) : Type 0 where
  pub value : (m e : ℤ) → c (factor_at hs i m e) ≡ C e
  pub none : C (pos 0) ≡ pos 0

module _ (hs : List ℤ) (i : Integer) (c : Factor → ℤ) (C : ℤ → ℤ) (by : IsByPower hs i c C) (base s t : ℕ) (n : ℤ)
    (at : n ≡ pos t -ℤ pos base) where
  zero-late : (J : ℕ) → t ≤ J → s ≡ base + 1 → s ≤ t →
      lead_by c (genus_zero hs J i) (place hs i.class n) ≡ C (power_of 0 (t - s) i.value)
  zero-late J far e late =
      let m = t - s in
      let found = one-here hs i c zero_exponent (λ k. pos (suc k) *ℤ i.value) n J m (omega arith) (omega (arith, ints))
      (λ j h. omega (arith, ints)) in
      let more : m + 1 ≡ suc m = omega arith in
      let power : power_of 0 m i.value ≡ pos (suc m) *ℤ i.value =
      ap (λ z. z *ℤ pos (m + 1)) (one-mul i.value) ∙ (ap (λ k. i.value *ℤ pos k) more ∙ mul-swap i.value (pos (suc m))) in
      ap (λ fs. lead_by c fs (place hs i.class n)) (zero-rows hs J i) ∙
      (found ∙ (by.value (pos (suc m)) (pos (suc m) *ℤ i.value) ∙ ap C (sym power)))

  zero-early : (J : ℕ) → s ≡ base + 1 → t < s → lead_by c (genus_zero hs J i) (place hs i.class n) ≡ pos 0
  zero-early J e early =
      ap (λ fs. lead_by c fs (place hs i.class n)) (zero-rows hs J i) ∙
      none-here hs i c zero_exponent (λ k. pos (suc k) *ℤ i.value) n J (λ k l h. absurd (omega (arith, ints)))

  higher-early : (h : ℕ) → i.genus ≡ suc h → s + suc h ≡ base + 1 → t < s →
      lead_by c (higher_below hs (2 * i.genus - 1) i) (place hs i.class n) ≡ pos 0
  higher-early h g e early =
      ap (λ fs. lead_by c fs (place hs i.class n)) (higher-rows hs (2 * i.genus - 1) i) ∙
      none-here hs i c (higher_exponent i) (higher_power i) n (2 * i.genus - 1) (λ k l here. absurd (omega (arith, ints)))

  higher-beyond : (h : ℕ) → i.genus ≡ suc h → s + suc h ≡ base + 1 → s ≤ t → 2 * h < t - s →
      lead_by c (higher_below hs (2 * i.genus - 1) i) (place hs i.class n) ≡ C (power_of (suc h) (t - s) i.value)
  higher-beyond h g e late far =
      let none : power_of (suc h) (t - s) i.value ≡ pos 0 =
      ap (λ k. (power_sign ((t - s) + suc h) *ℤ i.value) *ℤ pos k) (choose-beyond (2 * h) (t - s) far) ∙
      *ℤ-zero (power_sign ((t - s) + suc h) *ℤ i.value) in
      ap (λ fs. lead_by c fs (place hs i.class n)) (higher-rows hs (2 * i.genus - 1) i) ∙
      (none-here hs i c (higher_exponent i) (higher_power i) n (2 * i.genus - 1) (λ k l here. absurd (omega (arith, ints))) ∙
      (sym by.none ∙ ap C (sym none)))

  higher-late : (h : ℕ) → i.genus ≡ suc h → s + suc h ≡ base + 1 → s ≤ t → t - s ≤ 2 * h →
      lead_by c (higher_below hs (2 * i.genus - 1) i) (place hs i.class n) ≡ C (power_of (suc h) (t - s) i.value)
  higher-late h g e late near =
      let j = t - s in let k = 2 * h - j in
      let found = one-here hs i c (higher_exponent i) (higher_power i) n (2 * i.genus - 1) k (omega arith) (omega (arith, ints))
      (λ m here. omega (arith, ints)) in
      let sign : power_sign (k + i.genus) ≡ power_sign (j + suc h) = power_sign-same (k + i.genus) (j + suc h) (omega arith) in
      let top : 2 * i.genus - 2 ≡ 2 * h = omega arith in
      let count : choose (2 * i.genus - 2) k ≡ choose (2 * h) j = ap (λ m. choose m k) top ∙
      choose-mirror (2 * h) k j (omega arith) in
      let power : higher_power i k ≡ power_of (suc h) j i.value =
      ap (λ z. (z *ℤ i.value) *ℤ pos (choose (2 * i.genus - 2) k)) sign ∙
      ap (λ m. (power_sign (j + suc h) *ℤ i.value) *ℤ pos m) count in
      ap (λ fs. lead_by c fs (place hs i.class n)) (higher-rows hs (2 * i.genus - 1) i) ∙
      (found ∙ (by.value (higher_exponent i k) (higher_power i k) ∙ ap C power))

  own-late : (g J : ℕ) → i.genus ≡ g → t ≤ J → s + g ≡ base + 1 → s ≤ t →
      lead_by c (factors_by hs g J i) (place hs i.class n) ≡ C (power_of g (t - s) i.value)
  own-late zero J g far e late = zero-late J far (omega arith) late
  own-late (suc h) J g far e late = elim (cases_lt (2 * h) (t - s)) [
    | inl beyond ↦ higher-beyond h g e late beyond
    | inr near ↦ higher-late h g e late near
  ]

  own-early : (g J : ℕ) → i.genus ≡ g → s + g ≡ base + 1 → t < s →
      lead_by c (factors_by hs g J i) (place hs i.class n) ≡ pos 0
  own-early zero J g e early = zero-early J (omega arith) early
  own-early (suc h) J g e early = higher-early h g e early

  pub own-added : (g J : ℕ) → i.genus ≡ g → t ≤ J → s + g ≡ base + 1 →
      lead_by c (factors_by hs g J i) (place hs i.class n) ≡ C (added s g i.value t)
  own-added g J is far e = elim (cases_lt t s) [
    | inl early ↦ own-early g J is e early ∙ (sym by.none ∙ ap C (sym (added-early s g i.value t early)))
    | inr late ↦ own-late g J is far e late ∙ ap C (sym (added-late s g i.value t late))
  ]
