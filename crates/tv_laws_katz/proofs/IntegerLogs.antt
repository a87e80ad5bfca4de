-- What one integer adds to the recurrence: degree * value times s(y^k)^(g-1), over all k.
--
-- factor-log       what one factor adds, as a term of s^(g-1)
-- integer-logs     what all factors of an integer add
use Rattle.std.specs.Prelude.{◌≡◌, ℕ, zero, suc, ◌+◌, ◌-◌, ◌*◌, ℤ, pos, neg_ℤ, ◌*ℤ◌, List}
use Rattle.std.proofs.Common.{refl, sym, ap, arith, ◌∙◌}
use Rattle.std.proofs.lemmas.Int.{ints}
use Rattle.tv_lemmas.specs.Sums.{total}
use Rattle.tv_lemmas.proofs.Integers.{mul-swap, diff_of, diffs, diff-same}
use Rattle.tv_spec_plane.specs.Web.{degree_of}
use Rattle.tv_spec_katz.specs.Binomials.{choose, power_sign, sum_below}
use Rattle.tv_spec_katz.specs.Places.{Place, place, difference_by}
use Rattle.tv_spec_katz.specs.Katz.{Integer, factor_at, genus_zero, higher_below, higher_exponent, higher_power, factors_by}
use Rattle.tv_laws_katz.specs.Logarithm.{s_terms, s_exponent, s_coefficient}
use Rattle.tv_laws_katz.specs.Recurrence.{log_of}
use Rattle.tv_laws_katz.proofs.BelowSums.{sum_below-same, sum_below-scale, sum_below-swap}
use Rattle.tv_lemmas.proofs.Multiplied.{mul-mul, mul-neg}
use Rattle.tv_laws_katz.proofs.Powers.{power_sign-next}

-- the multiples of a place, taken off
abbrev taken : ℕ → List ℤ → List ℤ → (Place → ℤ) → Place → ℤ → ℤ
taken D hs B P p m = sum_below (λ k. P (difference_by (suc k) p (place hs B m))) D

abbrev pub scale_of : List ℤ → Integer → ℤ
scale_of hs i = degree_of hs i.class *ℤ i.value

factor-log : (D : ℕ) (hs : List ℤ) (i : Integer) (P : Place → ℤ) (p : Place) (m e x c : ℤ) → m ≡ x → neg_ℤ e ≡ i.value *ℤ c →
    log_of D (factor_at hs i m e) P p ≡ scale_of hs i *ℤ (c *ℤ taken D hs i.class P p x)
unfolding log_of
factor-log D hs i P p m e x c same power =
    ap (λ z. (degree_of hs i.class *ℤ z) *ℤ taken D hs i.class P p m) power ∙
    (ap (λ z. (degree_of hs i.class *ℤ (i.value *ℤ c)) *ℤ taken D hs i.class P p z) same ∙
    (ap (λ z. z *ℤ taken D hs i.class P p x) (sym (mul-mul (degree_of hs i.class) i.value c)) ∙ mul-mul (scale_of hs i) c (taken D hs i.class P p x)))

abbrev parts : ℕ → List ℤ → Integer → (Place → ℤ) → Place → ℕ → ℕ → ℤ
parts D hs i P p g j = scale_of hs i *ℤ (s_coefficient g j *ℤ taken D hs i.class P p (s_exponent g j))

zero-power : (j z : ℤ) → neg_ℤ (j *ℤ z) ≡ z *ℤ neg_ℤ j
zero-power j z = ap neg_ℤ (mul-swap j z) ∙ sym (mul-neg z j)

power-ring : (s z c : ℤ) → neg_ℤ ((neg_ℤ s *ℤ z) *ℤ c) ≡ z *ℤ (s *ℤ c)
power-ring s z c =
    let r = diff_of s in let t = diff_of z in let u = diff_of c in
    rw (r.2, t.2, u.2) (simp diffs (diff-same _ _ _ _ (omega arith)))

higher-power_is : (g k : ℕ) (i : Integer) → i.genus ≡ suc g → neg_ℤ (higher_power i k) ≡ i.value *ℤ s_coefficient (suc g) k
higher-power_is g k i e =
    let up : k + i.genus ≡ suc (k + g) = omega arith in
    let row : 2 * i.genus - 2 ≡ 2 * g = omega arith in
    let sign = ap power_sign up ∙ power_sign-next (k + g) in
    ap (λ s. neg_ℤ ((s *ℤ i.value) *ℤ pos (choose (2 * i.genus - 2) k))) sign ∙
    (ap (λ n. neg_ℤ ((neg_ℤ (power_sign (k + g)) *ℤ i.value) *ℤ pos (choose n k))) row ∙ power-ring (power_sign (k + g)) i.value (pos (choose (2 * g) k)))

zero-logs : (D : ℕ) (hs : List ℤ) (J : ℕ) (i : Integer) (P : Place → ℤ) (p : Place) →
    total (λ f. log_of D f P p) (genus_zero hs J i) ≡ sum_below (parts D hs i P p 0) J
unfolding sum_below
zero-logs D hs zero i P p = refl
zero-logs D hs (suc J) i P p =
    omega (arith, ints, zero-logs D hs J i P p, factor-log D hs i P p (pos (suc J)) (pos (suc J) *ℤ i.value) (pos (suc J)) (neg_ℤ (pos (suc J))) refl (zero-power (pos (suc J)) i.value))

higher-logs : (D : ℕ) (hs : List ℤ) (g n : ℕ) (i : Integer) (P : Place → ℤ) (p : Place) → i.genus ≡ suc g →
    total (λ f. log_of D f P p) (higher_below hs n i) ≡ sum_below (parts D hs i P p (suc g)) n
unfolding sum_below
higher-logs D hs g zero i P p e = refl
higher-logs D hs g (suc k) i P p e =
    omega (arith, ints, higher-logs D hs g k i P p e, factor-log D hs i P p (higher_exponent i k) (higher_power i k) (s_exponent (suc g) k) (s_coefficient (suc g) k) (omega (arith, ints)) (higher-power_is g k i e))

factors-logs : (D : ℕ) (hs : List ℤ) (g J : ℕ) (i : Integer) (P : Place → ℤ) (p : Place) → i.genus ≡ g →
    total (λ f. log_of D f P p) (factors_by hs g J i) ≡ sum_below (parts D hs i P p g) (s_terms g J)
factors-logs D hs zero J i P p e = zero-logs D hs J i P p
factors-logs D hs (suc g) J i P p e =
    let count : 2 * i.genus - 1 ≡ suc (2 * g) = omega arith in
    ap (λ n. total (λ f. log_of D f P p) (higher_below hs n i)) count ∙ higher-logs D hs g (suc (2 * g)) i P p e

-- the terms of s^(g-1) for each multiple
abbrev pub multiple_terms : List ℤ → Integer → (Place → ℤ) → Place → ℕ → ℕ → ℕ → ℤ
multiple_terms hs i P p g N k =
    sum_below (λ j. P (difference_by (suc k) p (place hs i.class (s_exponent g j))) *ℤ s_coefficient g j) N

pub integer-logs : (D : ℕ) (hs : List ℤ) (J : ℕ) (i : Integer) (P : Place → ℤ) (p : Place) →
    total (λ f. log_of D f P p) (factors_by hs i.genus J i) ≡ sum_below (λ k. scale_of hs i *ℤ multiple_terms hs i P p i.genus (s_terms i.genus J) k) D
integer-logs D hs J i P p =
    let g = i.genus in
    let N = s_terms i.genus J in
    factors-logs D hs g J i P p refl ∙
    (sym (sum_below-scale (scale_of hs i) (λ j. s_coefficient g j *ℤ taken D hs i.class P p (s_exponent g j)) N) ∙
    (ap (λ z. scale_of hs i *ℤ z) (
    sum_below-same _ _ N (λ j h. sum_below-scale (s_coefficient g j) (λ k. P (difference_by (suc k) p (place hs i.class (s_exponent g j)))) D) ∙
    (sum_below-swap (λ j k. s_coefficient g j *ℤ P (difference_by (suc k) p (place hs i.class (s_exponent g j)))) N D ∙
    sum_below-same _ _ D (λ k h. sum_below-same _ _ N (λ j l. mul-swap (s_coefficient g j) (P (difference_by (suc k) p (place hs i.class (s_exponent g j)))))))) ∙
    sum_below-scale (scale_of hs i) (λ k. multiple_terms hs i P p g N k) D))
