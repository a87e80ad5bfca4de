-- Parts that hold a product's coefficients, and the recurrence.
--
-- rows-read         the rows hold what a place of weight s leaves of the place
-- part_total-is, part_size-is    what one part adds is the sum over the gathered factors of its class, and so are the sizes
-- parts_total-is, parts_size-is  the same of all parts
-- whole-total       degree times the coefficient is the total
use Rattle.std.specs.Prelude.{◌≡◌, ℕ, suc, ◌-◌, ◌*◌, ◌≤◌, ℤ, pos, ◌+ℤ◌, ◌*ℤ◌, List, [], ◌∷◌, length}
use Rattle.std.specs.List.{AllByRecursion}
use Rattle.std.proofs.Common.{refl, sym, ap, arith, ◌∙◌}
use Rattle.std.proofs.lemmas.Int.{ints}
use Rattle.tv_ring.proofs.Sums.{total_below-same}
use Rattle.tv_lemmas.specs.Sums.{total, sum_of}
use Rattle.tv_spec_plane.specs.Web.{degree_of}
use Rattle.tv_spec_katz.specs.Places.{place, difference_by}
use Rattle.tv_spec_katz.specs.Product.{Factor, product}
use Rattle.tv_laws_katz.specs.Weights.{IsHeavy}
use Rattle.tv_laws_katz.specs.Recurrence.{log_of}
use Rattle.tv_laws_katz.specs.Sizes.{log_size}
use Rattle.tv_laws_katz.specs.Logarithm.{begins_at}
use Rattle.tv_laws_katz.specs.Gathered.{gathered_sum, gathered_size}
use Rattle.tv_laws_katz.proofs.BelowSums.{sum_below-same}
use Rattle.tv_laws_katz.proofs.Outside.{below-weight}
use Rattle.tv_laws_katz.proofs.GatheredFactors.{all-heavy, gathered_recurrence}
use Rattle.tv_laws_katz.proofs.GatheredTerms.{gathered_sizes}
use Rattle.tv_laws_katz.proofs.ProductRecurrence.{cancelled}
use Rattle.tv_recurrence.specs.Parts.{Addends, taken_sum, taken_size, part_total, part_size, parts_total, parts_size}
use Rattle.tv_recurrence.specs.Products.{at_weight, product_by_weight, IsPartOf, ArePartsOf, IsLogarithmic, CoefficientIsProduct, PartsAreExact, SizesOfParts}
use Rattle.tv_recurrence.proofs.TakenSums.{taken_sum-stop, taken_size-stop}
use Rattle.tv_recurrence.proofs.TakenRows.{IsReadFrom, taken_sum-is, taken_size-is}
use Rattle.tv_recurrence.proofs.Steps.{steps-gathered, step-sizes}
use Rattle.tv_recurrence.proofs.WeightedPlaces.{after-at, after-weight}

module _ (hs : List ℤ) (w D T : ℕ) (fs : List Factor) (v : List ℤ) (t : ℕ) (entries : length v ≡ length hs)
    (within : t ≤ T) (heavy : AllByRecursion (IsHeavy w) fs) where
  abbrev left : List ℤ → ℕ → ℕ → ℤ
  left B s j = product fs (difference_by (suc j) (at_weight hs w v t) (place hs B (begins_at hs w B +ℤ pos s)))

  rows-read : (B : List ℤ) (x : Addends) (s : ℕ) → IsPartOf hs w D T fs (product_by_weight hs w fs) v B x →
      IsReadFrom (left B s) x.rows s t D
  rows-read B x s is = record {
    count = is.count;
    read = λ j h room. ap (product fs) (after-at hs w v B t s (suc j) entries is.entries room) ∙
        sym (is.rows j (t - suc j * s) h (omega arith));
    none = λ j h past. below-weight w fs heavy _ (omega (arith, ints, after-weight hs w v B t s (suc j)));
  }

  part_total-is : (B : List ℤ) (x : Addends) → IsPartOf hs w D T fs (product_by_weight hs w fs) v B x →
      part_total t x ≡ gathered_sum hs w D T fs (at_weight hs w v t) B
  unfolding gathered_sum log_of
  part_total-is B x is =
      steps-gathered (pos x.degree) (λ s. taken_sum x.rows s t) x.powers T (λ s far. taken_sum-stop x.rows s t (omega arith)) ∙
      sum_below-same _ _ (suc T) (λ s h.
      rw (is.degree, is.powers s (omega arith), taken_sum-is (left B s) x.rows s t D (rows-read B x s is)) refl)

  part_size-is : (B : List ℤ) (x : Addends) → IsPartOf hs w D T fs (product_by_weight hs w fs) v B x →
      part_size t x ≡ gathered_size hs w D T fs (at_weight hs w v t) B
  unfolding gathered_size log_size
  part_size-is B x is =
      step-sizes (pos x.degree) (λ s. taken_size x.rows s t) x.powers T is.once
      (λ s far. taken_size-stop x.rows s t (omega arith)) ∙
      total_below-same _ _ (suc T) (λ s h.
      rw (is.degree, is.powers s (omega arith), taken_size-is (left B s) x.rows s t D (rows-read B x s is)) refl)

  parts_total-is : (Bs : List (List ℤ)) (xs : List Addends) → ArePartsOf hs w D T fs (product_by_weight hs w fs) v Bs xs →
      parts_total t xs ≡ total (gathered_sum hs w D T fs (at_weight hs w v t)) Bs
  parts_total-is [] [] are = refl
  parts_total-is [] (x ∷ xs) are = absurd are
  parts_total-is (B ∷ Bs) [] are = absurd are
  parts_total-is (B ∷ Bs) (x ∷ xs) are = omega (arith, ints, part_total-is B x are.0, parts_total-is Bs xs are.1)

  parts_size-is : (Bs : List (List ℤ)) (xs : List Addends) → ArePartsOf hs w D T fs (product_by_weight hs w fs) v Bs xs →
      parts_size t xs ≡ sum_of (gathered_size hs w D T fs (at_weight hs w v t)) Bs
  parts_size-is [] [] are = refl
  parts_size-is [] (x ∷ xs) are = absurd are
  parts_size-is (B ∷ Bs) [] are = absurd are
  parts_size-is (B ∷ Bs) (x ∷ xs) are = omega (arith, part_size-is B x are.0, parts_size-is Bs xs are.1)

whole-total : (hs : List ℤ) (w D T : ℕ) (fs : List Factor) (v : List ℤ) (t : ℕ) (Bs : List (List ℤ)) (xs : List Addends) →
    IsLogarithmic hs w D T fs v t Bs xs → degree_of hs v *ℤ product fs (at_weight hs w v t) ≡ parts_total t xs
whole-total hs w D T fs v t Bs xs is =
    let heavy = all-heavy hs w Bs (at_weight hs w v t) fs is.gathered.factors in
    gathered_recurrence hs w D T fs (at_weight hs w v t) Bs is.gathered ∙
    sym (parts_total-is hs w D T fs v t is.entries is.within heavy Bs xs is.parts)

pub coefficient_is_product : CoefficientIsProduct
coefficient_is_product hs w D T fs v t Bs xs d x is positive same e =
    let y = product fs (at_weight hs w v t) in
    let whole : pos d *ℤ y ≡ parts_total t xs = ap (λ z. z *ℤ y) same ∙ whole-total hs w D T fs v t Bs xs is in
    cancelled (pos d) x y (omega (arith, ints)) (e ∙ sym whole)

pub parts_are_exact : PartsAreExact
parts_are_exact hs w D T fs v t Bs xs d is same =
    let y = product fs (at_weight hs w v t) in
    record { quotient = y; exact = ap (λ z. z *ℤ y) same ∙ whole-total hs w D T fs v t Bs xs is }

pub sizes_of_parts : SizesOfParts
sizes_of_parts hs w D T fs v t Bs xs is =
    let p = at_weight hs w v t in
    let heavy = all-heavy hs w Bs p fs is.gathered.factors in
    let sizes = parts_size-is hs w D T fs v t is.entries is.within heavy Bs xs is.parts in
    rw sizes (gathered_sizes hs w D T fs p Bs is.gathered)
