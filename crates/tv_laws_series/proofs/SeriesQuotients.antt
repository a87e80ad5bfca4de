-- The quotient of series undoes their product, to the order that both know.
use Rattle.std.proofs.Common.{◌≡◌, ℕ, ◌<◌, ◌≤◌, min, pos, ◌+ℤ◌, length, take, refl, sym, ◌∙◌, ap, arith}
use Rattle.std.specs.Int.{int_min}
use Rattle.std.proofs.lemmas.Int.{ints, clamps}
use Rattle.std.proofs.lemmas.List.{length-take}
use Rattle.tv_ring.specs.Operations.{Operations, RingLaws}
use Rattle.tv_ring.specs.Sums.{at, convolution}
use Rattle.tv_ring.proofs.Products.{convolution-same}
use Rattle.tv_laws_series.specs.Terms.{Terms, terms, upto, listed}
use Rattle.tv_laws_series.specs.Series.{series_product, series_cut}
use Rattle.tv_laws_series.specs.SeriesLaws.{HasValues}
use Rattle.tv_laws_series.specs.Quotients.{quotients, quotient_upto, series_quotient, IsUnitSeries}
use Rattle.tv_laws_series.proofs.Exponents.{above_is}
use Rattle.tv_laws_series.proofs.Listed.{length-listed, at-listed, at-take, same_listed}
use Rattle.tv_laws_series.proofs.SeriesFrom.{terms-same}
use Rattle.tv_laws_series.proofs.Quotients.{quotient, length-quotients, at-quotients, value_quotients, quotient-convolution, only_quotient}

abbrev known_of : {A : Type 0} → Terms A → Terms A → ℕ
known_of a b = min (length a.coefficients) (length b.coefficients)

-- through the quotient's last exponent, as a list
pub cut-quotient_upto : {A : Type 0} (r : Operations A) (a b : Terms A) → IsUnitSeries r b → series_cut (quotient_upto a b) a ≡ terms a.low (take (known_of a b) a.coefficients)
cut-quotient_upto r a b u =
    let n = quotient_upto a b in let l = u.low in let o = above_is a.low (n +ℤ pos 1) in let k = u.known in
    terms-same (int_min a.low (n +ℤ pos 1)) a.low _ _ (omega (arith, ints, clamps)) (ap (λ c. take c a.coefficients) (omega (arith, ints, clamps)))

pub length-taken : {A : Type 0} (a b : Terms A) → length (take (known_of a b) a.coefficients) ≡ known_of a b
length-taken a b = let e = length-take (known_of a b) a.coefficients in omega arith

module _ {A : Type 0} {IsValue : A → Type 0} {r : Operations A} (laws : RingLaws IsValue r) where
  pub value_series_quotient : (a b : Terms A) → HasValues IsValue r a → HasValues IsValue r b → HasValues IsValue r (series_quotient r a b)
  value_series_quotient a b va vb = value_quotients laws (at r a.coefficients) (at r b.coefficients) (known_of a b) va vb

  pub quotient-product : (a b : Terms A) → HasValues IsValue r a → HasValues IsValue r b → IsUnitSeries r b → series_product r (series_quotient r a b) b ≡ series_cut (quotient_upto a b) a
  quotient-product a b va vb u =
      let f = at r a.coefficients in let g = at r b.coefficients in let n = known_of a b in
      let q = quotients r f g n in let l = length-quotients r f g n in let low = u.low in
      let c = length-listed (convolution r (at r q) g) (min (length q) (length b.coefficients)) in let t = length-taken a b in
      terms-same (a.low +ℤ b.low) a.low (listed (convolution r (at r q) g) (min (length q) (length b.coefficients))) (take n a.coefficients) (omega (arith, ints))
      (same_listed r _ _ (omega arith) (λ k h. at-listed r (convolution r (at r q) g) (min (length q) (length b.coefficients)) k (omega arith)
      ∙ convolution-same r (at r q) (quotient r f g) g g k (λ i within. at-quotients r f g n i (omega arith)) (λ i _. refl)
      ∙ quotient-convolution laws f g k va vb u.unit
      ∙ sym (at-take r a.coefficients n k (omega arith))))
      ∙ sym (cut-quotient_upto r a b u)

  -- the first terms of a sequence whose product is the dividend
  first_terms : (a b d : Terms A) (n : ℕ) → HasValues IsValue r b → HasValues IsValue r d → IsUnitSeries r b → n ≤ length d.coefficients → ((k : ℕ) → k < n → convolution r (at r d.coefficients) (at r b.coefficients) k ≡ at r a.coefficients k) → quotients r (at r a.coefficients) (at r b.coefficients) n ≡ take n d.coefficients
  first_terms a b d n vb vd u within product =
      let f = at r a.coefficients in let g = at r b.coefficients in
      let l = length-quotients r f g n in let t = length-take n d.coefficients in
      same_listed r (quotients r f g n) (take n d.coefficients) (omega arith) (λ k h.
      at-quotients r f g n k (omega arith) ∙ sym (only_quotient laws f g (at r d.coefficients) n k vd vb u.unit product (omega arith)) ∙ sym (at-take r d.coefficients n k (omega arith)))

  pub product-quotient : (d b : Terms A) → HasValues IsValue r d → HasValues IsValue r b → IsUnitSeries r b → series_quotient r (series_product r d b) b ≡ series_cut (quotient_upto d b) d
  product-quotient d b vd vb u =
      let a = series_product r d b in let n = known_of d b in let low = u.low in
      let c = length-listed (convolution r (at r d.coefficients) (at r b.coefficients)) n in
      let e : min (length a.coefficients) (length b.coefficients) ≡ n = omega arith in
      terms-same (d.low +ℤ b.low) d.low _ _ (omega (arith, ints))
      (ap (quotients r (at r a.coefficients) (at r b.coefficients)) e ∙ first_terms a b d n vb vd u (omega arith) (λ k h. sym (at-listed r (convolution r (at r d.coefficients) (at r b.coefficients)) n k h)))
      ∙ sym (cut-quotient_upto r d b u)

  pub only_series_quotient : (a b d : Terms A) → HasValues IsValue r a → HasValues IsValue r b → HasValues IsValue r d → IsUnitSeries r b → d.low ≡ a.low → upto d ≡ quotient_upto a b → series_product r d b ≡ series_cut (quotient_upto a b) a → d ≡ series_quotient r a b
  only_series_quotient a b d va vb vd u el eu product =
      let n = known_of a b in let low = u.low in let k0 = u.known in
      let m : length d.coefficients ≡ n = omega (arith, ints, clamps) in
      let f = convolution r (at r d.coefficients) (at r b.coefficients) in
      let l = length-quotients r (at r a.coefficients) (at r b.coefficients) n in let t = length-take n d.coefficients in
      let first = first_terms a b d n vb vd u (omega arith) (λ k h.
      sym (at-listed r f (known_of d b) k (omega arith)) ∙ ap (λ (s : Terms A). at r s.coefficients k) (product ∙ cut-quotient_upto r a b u) ∙ at-take r a.coefficients n k h) in
      terms-same d.low a.low d.coefficients _ el (same_listed r d.coefficients (take n d.coefficients) (omega arith) (λ k h. sym (at-take r d.coefficients n k (omega arith))) ∙ sym first)
