-- Sizes and reaches of polynomials keep the laws of sizes and reaches.
use Rattle.tv_ring.specs.Operations.{Operations, RingLaws, SizeLaws}
use Rattle.tv_laws_series.specs.Polynomials.{IsPoly, polynomials}
use Rattle.tv_laws_series.proofs.PolySizes.{row_size-nil, size-poly_sum, size-poly_product, size-poly_negative, size-poly_one}
use Rattle.tv_laws_series.proofs.PolyReach.{reach-poly_sum, reach-poly_product, reach-poly_negative, reach-poly_zero, reach-poly_one}

module _ {A : Type 0} {IsValue : A → Type 0} {r : Operations A} (laws : RingLaws IsValue r) (size_laws : SizeLaws IsValue r) where
  pub poly_size_laws : SizeLaws (IsPoly IsValue r) (polynomials r)
  poly_size_laws = record {
    size-nought = row_size-nil r;
    size-unit = size-poly_one laws size_laws;
    size-neg = λ p np. size-poly_negative laws size_laws p np.values;
    size-add = λ p q np nq. size-poly_sum laws size_laws p q np.values nq.values;
    size-mul = λ p q np nq. size-poly_product laws size_laws p q np.values nq.values;
    reach-nought = reach-poly_zero laws size_laws;
    reach-unit = reach-poly_one laws size_laws;
    reach-neg = reach-poly_negative laws size_laws;
    reach-add = reach-poly_sum laws size_laws;
    reach-mul = reach-poly_product laws size_laws;
  }
