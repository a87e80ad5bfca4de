-- The coefficients of products and of quotients, as sums over the pairs of coefficients that meet at an exponent.
use Rattle.std.proofs.Common.{◌≡◌, ℕ, suc, ◌-◌, ◌<◌, min, ℤ, pos, ◌+ℤ◌, ◌-ℤ◌, ◌≤ℤ◌, length, refl, sym, ◌∙◌, ap, arith}
use Rattle.std.proofs.lemmas.Int.{ints, clamps, by_lt_z}
use Rattle.tv_ring.specs.Operations.{Operations, RingLaws}
use Rattle.tv_ring.specs.Sums.{at, sum_below, term, convolution}
use Rattle.tv_ring.proofs.Sums.{sum_below-none, sum_below-same}
use Rattle.tv_ring.proofs.Products.{term_is, convolution_is}
use Rattle.tv_laws_series.specs.Terms.{Terms, above, upto}
use Rattle.tv_laws_series.specs.Series.{series_product, product_upto}
use Rattle.tv_laws_series.specs.SeriesLaws.{HasValues}
use Rattle.tv_laws_series.specs.Quotients.{series_quotient, quotient_upto, IsUnitSeries}
use Rattle.tv_laws_series.specs.Coefficients.{coefficient, pairs, sum_of_pairs}
use Rattle.tv_laws_series.proofs.Exponents.{above_is, above_adds}
use Rattle.tv_laws_series.proofs.Listed.{length-listed}
use Rattle.tv_laws_series.proofs.Quotients.{length-quotients}
use Rattle.tv_laws_series.proofs.SeriesQuotients.{quotient-product, value_series_quotient}
use Rattle.tv_laws_series.proofs.Coefficients.{coefficient_below, coefficient-cut, coefficient-product}

pairs_is : {A : Type 0} (r : Operations A) (a b : Terms A) (n : ℤ) (k : ℕ) → pairs r a b n k ≡ r.mul (coefficient r a (a.low +ℤ pos k)) (coefficient r b (n -ℤ (a.low +ℤ pos k)))
unfolding pairs
pairs_is r a b n k = refl

pub upto-product : {A : Type 0} (r : Operations A) (a b : Terms A) → upto (series_product r a b) ≡ product_upto a b
upto-product r a b = omega (arith, ints, clamps, length-listed (convolution r (at r a.coefficients) (at r b.coefficients)) (min (length a.coefficients) (length b.coefficients)))

pub upto-quotient : {A : Type 0} (r : Operations A) (a b : Terms A) → IsUnitSeries r b → upto (series_quotient r a b) ≡ quotient_upto a b
upto-quotient r a b unit =
    let l = length-quotients r (at r a.coefficients) (at r b.coefficients) (min (length a.coefficients) (length b.coefficients)) in let low = unit.low in
    omega (arith, ints, clamps)

-- the pair with the exponent low a + i
pair_at : {A : Type 0} (r : Operations A) (a b : Terms A) (n : ℤ) (k i : ℕ) → (a.low +ℤ b.low) +ℤ pos k ≡ n → i < suc k →
    term r (λ i. coefficient r a (a.low +ℤ pos i)) (λ j. coefficient r b (b.low +ℤ pos j)) k i ≡ pairs r a b n i
pair_at r a b n k i e h =
    let j : b.low +ℤ pos (k - i) ≡ n -ℤ (a.low +ℤ pos i) = omega (arith, ints) in
    term_is r (λ i. coefficient r a (a.low +ℤ pos i)) (λ j. coefficient r b (b.low +ℤ pos j)) k i
    ∙ ap (λ m. r.mul (coefficient r a (a.low +ℤ pos i)) (coefficient r b m)) j
    ∙ sym (pairs_is r a b n i)

module _ {A : Type 0} {IsValue : A → Type 0} {r : Operations A} (laws : RingLaws IsValue r) where
  pub coefficient-product_pairs : (a b : Terms A) (n : ℤ) → HasValues IsValue r a → HasValues IsValue r b → n ≤ℤ product_upto a b → coefficient r (series_product r a b) n ≡ sum_of_pairs r a b n
  coefficient-product_pairs a b n va vb h =
      let low = a.low +ℤ b.low in let f = pairs r a b n in
      by_lt_z n low
      (λ below. let none : above low (n +ℤ pos 1) ≡ 0 = omega (arith, ints, above_is low (n +ℤ pos 1)) in
      coefficient_below r (series_product r a b) n below ∙ sym (ap (sum_below r f) none ∙ sum_below-none r f))
      (λ from_low.
      let k = above low n in let e : low +ℤ pos k ≡ n = above_adds low n from_low in
      let count : above low (n +ℤ pos 1) ≡ suc k = omega (arith, ints, above_is low (n +ℤ pos 1), above_is low n) in
      let u = upto-product r a b in
      let known : (low +ℤ pos k) ≤ℤ upto (series_product r a b) = omega (arith, ints) in
      let la : a.low ≤ℤ a.low = omega (arith, ints) in let lb : b.low ≤ℤ b.low = omega (arith, ints) in
      let fa = λ (i : ℕ). coefficient r a (a.low +ℤ pos i) in let fb = λ (j : ℕ). coefficient r b (b.low +ℤ pos j) in
      ap (coefficient r (series_product r a b)) (sym e)
      ∙ coefficient-product laws a.low b.low a b k va vb la lb known
      ∙ convolution_is r fa fb k
      ∙ sum_below-same r (term r fa fb k) f (suc k) (λ i within. pair_at r a b n k i e within)
      ∙ sym (ap (sum_below r f) count))

  pub pairs-quotient : (a b : Terms A) (n : ℤ) → HasValues IsValue r a → HasValues IsValue r b → IsUnitSeries r b → n ≤ℤ quotient_upto a b → sum_of_pairs r (series_quotient r a b) b n ≡ coefficient r a n
  pairs-quotient a b n va vb unit h =
      let q = series_quotient r a b in let uq = upto-quotient r a b unit in let low = unit.low in let known = unit.known in
      let within : n ≤ℤ product_upto q b = omega (arith, ints, clamps) in
      sym (coefficient-product_pairs q b n (value_series_quotient laws a b va vb) vb within)
      ∙ ap (λ t. coefficient r t n) (quotient-product laws a b va vb unit)
      ∙ coefficient-cut r (quotient_upto a b) a n h
