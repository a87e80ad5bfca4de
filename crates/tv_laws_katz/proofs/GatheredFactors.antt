-- The terms of the recurrence gathered by class and exponent.
--
-- gather-one, gather  values of factors, gathered place by place
-- log-linear          what a factor adds, by its exponent
-- gathered_recurrence the recurrence over gathered factors
-- factors-listed      the factors of integers are such
--
-- IsUpTo w T d K      == K is 0 at places of a degree above d, and of a weight above T
use Rattle.std.specs.Prelude.{◌≡◌, ◌⊎◌, Contains, ℕ, suc, ◌≤◌, ℤ, pos, neg_ℤ, ◌+ℤ◌, ◌*ℤ◌, ◌≤ℤ◌, ◌<ℤ◌, Bool, true, false, List, [], ◌∷◌}
use Rattle.std.specs.List.{AllByRecursion, IsDistinct}
use Rattle.std.specs.Ordering.{int_eq}
use Rattle.std.proofs.Common.{refl, sym, ap, arith, ◌∙◌, inl, inr}
use Rattle.std.proofs.Math.IntN.{*ℤ-zero, zero-*ℤ}
use Rattle.std.proofs.lemmas.Int.{ints}
use Rattle.tv_lemmas.specs.Sums.{total}
use Rattle.tv_lemmas.proofs.Members.{all-any, all-onto, all-both, all-append, all-front}
use Rattle.tv_lemmas.proofs.Sums.{total-same, total-all}
use Rattle.tv_lemmas.specs.Naturals.{as_natural}
use Rattle.tv_spec_plane.specs.Web.{degree_of}
use Rattle.tv_spec_boxes.specs.Assignments.{same_vector}
use Rattle.tv_spec_boxes.proofs.Vectors.{same_vector-same, same_vector_tells}
use Rattle.tv_spec_katz.specs.Binomials.{sum_below}
use Rattle.tv_spec_katz.specs.Places.{Place, place, difference, difference_by}
use Rattle.tv_spec_katz.specs.Product.{Factor, product}
use Rattle.tv_spec_katz.specs.Katz.{Integer, factor_at, factors_by, factors}
use Rattle.tv_laws_katz.specs.Weights.{weight, IsRising, IsHeavy, IsWithinSlope}
use Rattle.tv_laws_katz.proofs.FurtherInteger.{IsFactorOf, factors-are, same-degree}
use Rattle.tv_laws_katz.specs.Recurrence.{log_of, logs}
use Rattle.tv_laws_katz.specs.Logarithm.{when, begins_at}
use Rattle.tv_laws_katz.specs.Gathered.{total_in, power_in, gathered_factor, gathered_sum, IsListedFactor, GatheredRecurrence}
use Rattle.tv_laws_katz.proofs.BelowSums.{sum_below-same, sum_below-none}
use Rattle.tv_laws_katz.proofs.Totals.{total-pick, total-sum_below, total-swap, total-scale, pick-or_none, at-most-or}
use Rattle.tv_laws_katz.proofs.Differences.{difference_by-lower, weight-difference}
use Rattle.tv_laws_katz.proofs.LargerBound.{less-weight, factors-heavy}
use Rattle.tv_laws_katz.proofs.Outside.{below-weight}
use Rattle.tv_laws_katz.proofs.ProductRecurrence.{factor_recurrence}
use Rattle.tv_laws_katz.proofs.Units.{product-below}
use Rattle.tv_lemmas.proofs.Integers.{diff_of, diffs, diff-same}
use Rattle.tv_lemmas.proofs.Naturals.{as_natural-is}

pub record IsUpTo (w T : ℕ) (d : ℤ) (K : Place → ℤ) : Type 0 where
  pub high : (x : Place) → pos 1 ≤ℤ x.degree → d <ℤ x.degree → K x ≡ pos 0
  pub beyond : (x : Place) → pos 1 ≤ℤ x.degree → pos T <ℤ weight w x → K x ≡ pos 0

-- of one factor, at each exponent of one class
abbrev at_class : List ℤ → ℕ → ℕ → (Place → ℤ) → ℤ → ℤ → List ℤ → ℤ
at_class hs w T K m c B =
    sum_below (λ t. K (place hs B (begins_at hs w B +ℤ pos t)) *ℤ when (int_eq m (begins_at hs w B +ℤ pos t)) c) (suc T)

gather-one : (hs : List ℤ) (w T : ℕ) (K : Place → ℤ) (c : ℤ) (p : Place) (Bs : List (List ℤ)) (f : Factor) →
    IsUpTo w T p.degree K → IsDistinct same_vector Bs → IsListedFactor hs w Bs p f →
    K f.at *ℤ c ≡ total (λ B. when (same_vector f.at.class B) (at_class hs w T K f.at.exponent c B)) Bs
gather-one hs w T K c p Bs f upto once is =
    let F = λ (m : ℤ). K (place hs f.at.class m) in
    let low = begins_at hs w f.at.class in
    let r = as_natural (weight w f.at) in
    let same = ap (λ (x : Place). x.degree) is.graded in
    let place-is : f.at.exponent ≡ low +ℤ pos r = omega (arith, ints, as_natural-is (weight w f.at) is.heavy, ap (λ z. pos w *ℤ z) same) in
    let value : F f.at.exponent ≡ K f.at = ap K (sym is.graded) in
    let far : (r ≤ T) ⊎ (F f.at.exponent ≡ pos 0) = at-most-or T r (F f.at.exponent ≡ pos 0) (λ more. value ∙ upto.beyond f.at is.rising (omega (arith, ints, as_natural-is (weight w f.at) is.heavy))) in
    let here : at_class hs w T K f.at.exponent c f.at.class ≡ K f.at *ℤ c = pick-or_none F c f.at.exponent low r T place-is far ∙ ap (λ z. z *ℤ c) value in
    sym (total-pick same_vector same_vector_tells same_vector-same (at_class hs w T K f.at.exponent c) f.at.class Bs once (listed-or is.listed here) ∙ here)
  where
    listed-or : Contains Bs f.at.class ⊎ (p.degree <ℤ f.at.degree) →
        at_class hs w T K f.at.exponent c f.at.class ≡ K f.at *ℤ c →
        Contains Bs f.at.class ⊎ (at_class hs w T K f.at.exponent c f.at.class ≡ pos 0)
    listed-or (inl among) here = inl among
    listed-or (inr high) here = inr (here ∙ (ap (λ z. z *ℤ c) (upto.high f.at is.rising high) ∙ zero-*ℤ c))

-- the tests commute with a factor in front and with a sum
when-scaled : (a b : Bool) (y c : ℤ) → when a (y *ℤ when b c) ≡ y *ℤ when a (when b c)
when-scaled true b y c = refl
when-scaled false b y c = sym (*ℤ-zero y)

when-below : (a : Bool) (g : ℕ → ℤ) (n : ℕ) → when a (sum_below g n) ≡ sum_below (λ t. when a (g t)) n
when-below true g n = refl
when-below false g n = sym (sum_below-none (λ t. pos 0) n (λ t h. refl))

pub gather : (hs : List ℤ) (w T : ℕ) (K : Place → ℤ) (c : Factor → ℤ) (p : Place) (Bs : List (List ℤ)) (fs : List Factor) →
    IsUpTo w T p.degree K → IsDistinct same_vector Bs → AllByRecursion (IsListedFactor hs w Bs p) fs →
    total (λ f. K f.at *ℤ c f) fs ≡ total (λ B. sum_below (λ t. K (place hs B (begins_at hs w B +ℤ pos t)) *ℤ total_in c fs B (begins_at hs w B +ℤ pos t)) (suc T)) Bs
gather hs w T K c p Bs fs upto once all =
    let m = λ (B : List ℤ) (t : ℕ). begins_at hs w B +ℤ pos t in
    let X = λ (B : List ℤ) (t : ℕ) (f : Factor). when (same_vector f.at.class B) (when (int_eq f.at.exponent (m B t)) (c f)) in
    total-all (IsListedFactor hs w Bs p) _ _ (λ f is. gather-one hs w T K (c f) p Bs f upto once is) fs all ∙
    (total-swap (λ f B. when (same_vector f.at.class B) (at_class hs w T K f.at.exponent (c f) B)) fs Bs ∙
    total-same _ _ Bs (all-any _ (λ B.
    total-same _ (λ f. sum_below (λ t. K (place hs B (m B t)) *ℤ X B t f) (suc T)) fs (all-any _ (λ f.
    when-below (same_vector f.at.class B) (λ t. K (place hs B (m B t)) *ℤ when (int_eq f.at.exponent (m B t)) (c f)) (suc T) ∙
    sum_below-same _ _ (suc T) (λ t h. when-scaled (same_vector f.at.class B) (int_eq f.at.exponent (m B t)) (K (place hs B (m B t))) (c f))) fs) ∙
    (total-sum_below (λ f t. K (place hs B (m B t)) *ℤ X B t f) (suc T) fs ∙
    sum_below-same _ _ (suc T) (λ t h. sym (total-scale (K (place hs B (m B t))) (X B t) fs)))) Bs))

-- what is left of p is of a degree below 0 above the degree of p, and of a weight below 0 above T
pub left-high : (fs : List Factor) (p x : Place) (j : ℕ) → pos 1 ≤ℤ x.degree → p.degree <ℤ x.degree →
    product fs (difference_by (suc j) p x) ≡ pos 0
unfolding difference_by
left-high fs p x j rising high =
    product-below fs (difference_by j (difference p x) x) (omega (arith, ints, difference_by-lower j (difference p x) x rising))

pub left-beyond : (w T : ℕ) (fs : List Factor) (p x : Place) (j : ℕ) → AllByRecursion (IsHeavy w) fs → weight w p ≤ℤ pos T →
    pos T <ℤ weight w x → product fs (difference_by (suc j) p x) ≡ pos 0
unfolding difference_by
left-beyond w T fs p x j heavy room more = below-weight w fs heavy (difference_by j (difference p x) x)
    (omega (arith, ints, less-weight w j (difference p x) x (omega (arith, ints)), weight-difference w p x))

abbrev log_at : ℕ → (Place → ℤ) → Place → Place → ℤ
log_at D P p x = neg_ℤ x.degree *ℤ sum_below (λ j. P (difference_by (suc j) p x)) D

log-linear : (D : ℕ) (P : Place → ℤ) (p : Place) (f : Factor) → log_of D f P p ≡ log_at D P p f.at *ℤ f.power
unfolding log_of
log-linear D P p f = linear f.at.degree f.power (sum_below (λ j. P (difference_by (suc j) p f.at)) D)
  where
    linear : (d e s : ℤ) → (d *ℤ neg_ℤ e) *ℤ s ≡ (neg_ℤ d *ℤ s) *ℤ e
    linear d e s =
        let r = diff_of d in let t = diff_of e in let u = diff_of s in
        rw (r.2, t.2, u.2) (simp diffs (diff-same _ _ _ _ (omega arith)))

pub all-heavy : (hs : List ℤ) (w : ℕ) (Bs : List (List ℤ)) (p : Place) (fs : List Factor) →
    AllByRecursion (IsListedFactor hs w Bs p) fs → AllByRecursion (IsHeavy w) fs
all-heavy hs w Bs p fs all = all-onto (IsListedFactor hs w Bs p) (IsHeavy w) (λ f is. is.heavy) fs all

pub all-rising : (hs : List ℤ) (w : ℕ) (Bs : List (List ℤ)) (p : Place) (fs : List Factor) →
    AllByRecursion (IsListedFactor hs w Bs p) fs → AllByRecursion IsRising fs
all-rising hs w Bs p fs all = all-onto (IsListedFactor hs w Bs p) IsRising (λ f is. is.rising) fs all

log-upto : (w T D : ℕ) (fs : List Factor) (p : Place) → AllByRecursion (IsHeavy w) fs → weight w p ≤ℤ pos T →
    IsUpTo w T p.degree (log_at D (product fs) p)
log-upto w T D fs p heavy room = record {
  high = λ x rising high. ap (λ z. neg_ℤ x.degree *ℤ z) (sum_below-none _ D (λ j h. left-high fs p x j rising high)) ∙
      *ℤ-zero (neg_ℤ x.degree);
  beyond =
      λ x rising more. ap (λ z. neg_ℤ x.degree *ℤ z) (sum_below-none _ D (λ j h. left-beyond w T fs p x j heavy room more)) ∙
      *ℤ-zero (neg_ℤ x.degree);
}

pub gathered_recurrence : GatheredRecurrence
unfolding logs gathered_sum power_in
gathered_recurrence hs w D T fs p Bs given =
    let P = product fs in
    let heavy = all-heavy hs w Bs p fs given.factors in
    factor_recurrence D fs p (all-rising hs w Bs p fs given.factors) given.degree ∙
    (total-same _ _ fs (all-any _ (λ f. log-linear D P p f) fs) ∙
    (gather hs w T (log_at D P p) (λ f. f.power) p Bs fs (log-upto w T D fs p heavy given.room) given.once given.factors ∙
    total-same _ _ Bs (all-any _ (λ B. sum_below-same _ _ (suc T) (λ t h. sym (log-linear D P p (gathered_factor hs fs B (begins_at hs w B +ℤ pos t))))) Bs)))

-- the factors of integers whose classes are listed, or have more than the degree of p
pub factors-listed : (hs : List ℤ) (w J : ℕ) (Bs : List (List ℤ)) (p : Place) (is : List Integer) →
    AllByRecursion (IsWithinSlope hs w) is →
    AllByRecursion (λ i. Contains Bs i.class ⊎ (p.degree <ℤ degree_of hs i.class)) is → AllByRecursion (IsListedFactor hs w Bs p) (factors hs J is)
factors-listed hs w J Bs p [] within listed = tt
factors-listed hs w J Bs p (i ∷ is) within listed =
    all-append (IsListedFactor hs w Bs p) (factors_by hs i.genus J i) (factors hs J is)
    (all-both (IsFactorOf hs i) (IsHeavy w) (IsListedFactor hs w Bs p) (λ f of heavy. listed-factor f of heavy listed.0) (factors_by hs i.genus J i) (factors-are hs i.genus J i refl)
    (all-front (IsHeavy w) (factors_by hs i.genus J i) (factors hs J is) (factors-heavy hs w J (i ∷ is) within)))
    (factors-listed hs w J Bs p is within.1 listed.1)
  where
    listed-factor : (f : Factor) → IsFactorOf hs i f → IsHeavy w f → Contains Bs i.class ⊎ (p.degree <ℤ degree_of hs i.class) →
        IsListedFactor hs w Bs p f
    listed-factor f of heavy here = record {
      graded = graded-as f (factor_at hs i of.exponent of.power) of.is refl;
      rising = omega (arith, ints, same-degree hs i f of, within.0.positive);
      heavy = heavy;
      listed = either here;
    }
      where
        graded-as : (f g : Factor) → f ≡ g → g.at ≡ place hs g.at.class g.at.exponent → f.at ≡ place hs f.at.class f.at.exponent
        graded-as f g e h = rw e h

        either : Contains Bs i.class ⊎ (p.degree <ℤ degree_of hs i.class) → Contains Bs f.at.class ⊎ (p.degree <ℤ f.at.degree)
        either (inl among) = let same = ap (λ (x : Factor). x.at.class) of.is in inl (rw same among)
        either (inr high) = inr (omega (arith, ints, same-degree hs i f of))
