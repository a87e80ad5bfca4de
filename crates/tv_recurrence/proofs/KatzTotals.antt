-- Parts that hold the coefficients of Katz's product, and the recurrence.
--
-- katz_by_weight-product  where no genus is above the slope, the coefficients are those of the product over the factors with
--                   j through T
-- parts-same        parts for equal coefficients; logarithmic-of, parts of Katz's product as parts of that product
use Rattle.std.specs.Prelude.{◌≡◌, ℕ, ◌≤◌, ℤ, ◌*ℤ◌, unsigned_abs, List, [], ◌∷◌}
use Rattle.std.specs.List.{AllByRecursion}
use Rattle.std.proofs.Common.{sym, ap, arith, ◌∙◌}
use Rattle.std.proofs.lemmas.Int.{ints}
use Rattle.tv_spec_katz.specs.Binomials.{power_sign}
use Rattle.tv_spec_katz.specs.Katz.{Integer, factors}
use Rattle.tv_spec_katz.specs.Product.{Factor}
use Rattle.tv_laws_katz.specs.Weights.{IsWithinSlope}
use Rattle.tv_laws_katz.proofs.GatheredFactors.{factors-listed}
use Rattle.tv_laws_katz.proofs.LargerBound.{product-katz, product-absolute}
use Rattle.tv_lemmas.proofs.Multiplied.{mul-mul, one-mul}
use Rattle.tv_laws_katz.proofs.Powers.{power_sign-square}
use Rattle.tv_recurrence.specs.Parts.{Addends}
use Rattle.tv_recurrence.specs.Products.{exponent_at, at_weight, product_by_weight, IsPartOf, ArePartsOf, IsLogarithmic}
use Rattle.tv_recurrence.specs.KatzParts.{katz_by_weight, IsKatzLogarithmic, CoefficientIsKatz, KatzPartsAreExact, SizesOfKatzParts}
use Rattle.tv_recurrence.proofs.PartTotals.{coefficient_is_product, parts_are_exact, sizes_of_parts}
use Rattle.tv_recurrence.proofs.WeightedPlaces.{place-weight}

signed-twice : (k : ℕ) (z : ℤ) → power_sign k *ℤ (power_sign k *ℤ z) ≡ z
signed-twice k z =
    sym (mul-mul (power_sign k) (power_sign k) z) ∙ (ap (λ c. c *ℤ z) (power_sign-square k) ∙ one-mul z)

pub katz_by_weight-product : (hs : List ℤ) (w T : ℕ) (is : List Integer) (v : List ℤ) (t : ℕ) →
    AllByRecursion (IsWithinSlope hs w) is → t ≤ T →
    katz_by_weight hs w is v t ≡ product_by_weight hs w (factors hs T is) v t
katz_by_weight-product hs w T is v t slope within =
    let n = exponent_at hs w v t in
    ap (λ z. power_sign (unsigned_abs n) *ℤ z)
    (product-katz hs w is v n T slope (omega (arith, ints, place-weight hs w v t))) ∙
    signed-twice (unsigned_abs n) (product_by_weight hs w (factors hs T is) v t)

module _ (hs : List ℤ) (w D T : ℕ) (fs : List Factor) (R S : List ℤ → ℕ → ℤ) (v : List ℤ)
    (same : (u : List ℤ) (s : ℕ) → s ≤ T → R u s ≡ S u s) where
  part-same : (B : List ℤ) (x : Addends) → IsPartOf hs w D T fs R v B x → IsPartOf hs w D T fs S v B x
  part-same B x is = record {
    entries = is.entries;
    degree = is.degree;
    powers = is.powers;
    once = is.once;
    count = is.count;
    rows = λ j s h k. is.rows j s h k ∙ same _ s k;
  }

  parts-same : (Bs : List (List ℤ)) (xs : List Addends) → ArePartsOf hs w D T fs R v Bs xs → ArePartsOf hs w D T fs S v Bs xs
  parts-same [] [] are = tt
  parts-same [] (x ∷ xs) are = absurd are
  parts-same (B ∷ Bs) [] are = absurd are
  parts-same (B ∷ Bs) (x ∷ xs) are = (part-same B x are.0, parts-same Bs xs are.1)

pub logarithmic-of : (hs : List ℤ) (w D T : ℕ) (is : List Integer) (v : List ℤ) (t : ℕ) (Bs : List (List ℤ)) (xs : List Addends) →
    IsKatzLogarithmic hs w D T is v t Bs xs → IsLogarithmic hs w D T (factors hs T is) v t Bs xs
logarithmic-of hs w D T is v t Bs xs given = record {
  entries = given.entries;
  within = given.within;
  gathered = record {
    factors = factors-listed hs w T Bs (at_weight hs w v t) is given.slope given.listed;
    once = given.once;
    degree = given.degree;
    room = omega (arith, ints, place-weight hs w v t, given.within);
  };
  parts = parts-same hs w D T (factors hs T is) (katz_by_weight hs w is) (product_by_weight hs w (factors hs T is)) v
      (λ u s h. katz_by_weight-product hs w T is u s given.slope h) Bs xs given.parts;
}

pub coefficient_is_katz : CoefficientIsKatz
coefficient_is_katz hs w D T is v t Bs xs d x given positive same e =
    coefficient_is_product hs w D T (factors hs T is) v t Bs xs d x (logarithmic-of hs w D T is v t Bs xs given) positive same e ∙
    sym (katz_by_weight-product hs w T is v t given.slope given.within)

pub katz_parts_are_exact : KatzPartsAreExact
katz_parts_are_exact hs w D T is v t Bs xs d given same =
    parts_are_exact hs w D T (factors hs T is) v t Bs xs d (logarithmic-of hs w D T is v t Bs xs given) same

pub sizes_of_katz_parts : SizesOfKatzParts
sizes_of_katz_parts hs w D T is v t Bs xs given =
    let absolute = product-absolute hs w is v (exponent_at hs w v t) T given.slope
    (omega (arith, ints, place-weight hs w v t, given.within)) in
    rw absolute (sizes_of_parts hs w D T (factors hs T is) v t Bs xs (logarithmic-of hs w D T is v t Bs xs given))
