-- What the calls of a series put together is the sum, the product, the quotient or the multiple.
use Rattle.std.proofs.Common.{◌≡◌, ℕ, ◌+◌, min, ℤ, ◌+ℤ◌, List, length, refl, ◌∙◌, arith}
use Rattle.std.specs.Int.{int_min}
use Rattle.std.proofs.lemmas.Int.{ints, clamps}
use Rattle.tv_ring.specs.Operations.{Operations, RingLaws}
use Rattle.tv_ring.specs.Sums.{at, convolution, size_convolution}
use Rattle.tv_laws_series.specs.Terms.{Terms, terms, above, padded, from, known, listed, plus, scaled, IsWithin, IsBounded}
use Rattle.tv_laws_series.specs.Series.{series_sum, product_upto, series_product, series_scale, IsSeries}
use Rattle.tv_laurent.specs.SeriesCalls.{IsWideAt, IsSumWide, IsProductWide, sum_size, OnWide}
use Rattle.tv_laws_series.specs.Quotients.{quotients, series_quotient, IsUnitSeries}
use Rattle.tv_laurent.specs.QuotientCalls.{ReachesAddUpTimes, quotient_size, QuotientReaches, IsQuotientWide}
use Rattle.tv_laurent.specs.declared.fault.SeriesFault.{SeriesFault}
use Rattle.tv_laurent.specs.declared.fault.SeriesFault.TheVariants.{Wide, Memory}
use Rattle.tv_laws_series.proofs.Exponents.{above_is}
use Rattle.tv_laws_series.proofs.Listed.{length-listed}
use Rattle.tv_laws_series.proofs.Padded.{value_scaled}
use Rattle.tv_laws_series.proofs.SeriesFrom.{terms-same, value_listed, value_series_sum, value_series_product}
use Rattle.tv_laws_series.proofs.Quotients.{length-quotients}
use Rattle.tv_laws_series.proofs.SeriesQuotients.{value_series_quotient}

pub from_padded : {A : Type 0} (r : Operations A) (m : ℤ) (t : Terms A) → from r m t ≡ padded r (above m t.low) (at r t.coefficients)
unfolding from
from_padded r m t = refl

-- from the places before each row, the common low and the count
pub sum_result : {A : Type 0} (r : Operations A) (a b : Terms A) (low : ℤ) (d e count : ℕ) (xs ys items : List A) → xs ≡ a.coefficients → ys ≡ b.coefficients → low ≡ int_min a.low b.low → d ≡ above (int_min a.low b.low) a.low → e ≡ above (int_min a.low b.low) b.low → count ≡ min (d + length xs) (e + length ys)
    → items ≡ listed (plus r (padded r d (at r xs)) (padded r e (at r ys))) count → terms low items ≡ series_sum r a b
sum_result r a b low d e count xs ys items ex ey el ed ee ec ei =
    let m = int_min a.low b.low in
    let c' : count ≡ min (known m a) (known m b) = ec ∙ rw (ed, ee, ex, ey) refl in
    terms-same low m items _ el (ei ∙ rw (ex, ey, ed, ee, c', from_padded r m a, from_padded r m b) refl)

pub sum_wide_result : {A : Type 0} (r : Operations A) (a b : Terms A) (low : ℤ) (d e count : ℕ) (xs ys : List A) (fault : SeriesFault) → xs ≡ a.coefficients → ys ≡ b.coefficients → low ≡ int_min a.low b.low → d ≡ above (int_min a.low b.low) a.low → e ≡ above (int_min a.low b.low) b.low → count ≡ min (d + length xs) (e + length ys)
    → OnWide fault (λ n. IsWideAt low n count (sum_size r (padded r d (at r xs)) (padded r e (at r ys)))) → OnWide fault (IsSumWide r a b)
sum_wide_result r a b low d e count xs ys Memory ex ey el ed ee ec wide = tt
sum_wide_result r a b low d e count xs ys (Wide n) ex ey el ed ee ec wide =
    let m = int_min a.low b.low in
    let c' : count ≡ min (known m a) (known m b) = ec ∙ rw (ed, ee, ex, ey) refl in
    let w = rw (el, c', ed, ee, ex, ey) at wide in rw (from_padded r m a, from_padded r m b) w

pub product_result : {A : Type 0} (r : Operations A) (a b : Terms A) (low : ℤ) (count : ℕ) (xs ys items : List A) → xs ≡ a.coefficients → ys ≡ b.coefficients → low ≡ a.low +ℤ b.low → count ≡ min (length xs) (length ys)
    → items ≡ listed (convolution r (at r xs) (at r ys)) count → terms low items ≡ series_product r a b
product_result r a b low count xs ys items ex ey el ec ei = terms-same low (a.low +ℤ b.low) items _ el (ei ∙ rw (ec, ex, ey) refl)

pub product_wide_result : {A : Type 0} (r : Operations A) (a b : Terms A) (low : ℤ) (count : ℕ) (xs ys : List A) (fault : SeriesFault) → xs ≡ a.coefficients → ys ≡ b.coefficients → low ≡ a.low +ℤ b.low → count ≡ min (length xs) (length ys)
    → OnWide fault (λ n. IsWideAt low n count (size_convolution r (at r xs) (at r ys))) → OnWide fault (IsProductWide r a b)
product_wide_result r a b low count xs ys Memory ex ey el ec wide = tt
product_wide_result r a b low count xs ys (Wide n) ex ey el ec wide = rw (← ex, ← ey, ← el, ← ec) wide

pub scale_result : {A : Type 0} (r : Operations A) (c : A) (a : Terms A) (low : ℤ) (xs items : List A) → xs ≡ a.coefficients → low ≡ a.low → items ≡ listed (scaled r c (at r xs)) (length xs) → terms low items ≡ series_scale r c a
scale_result r c a low xs items ex el ei = terms-same low a.low items _ el (ei ∙ rw ex refl)

module _ {A : Type 0} {IsValue : A → Type 0} {r : Operations A} (laws : RingLaws IsValue r) where
  pub sum_is_series : (a b : Terms A) → IsSeries IsValue r a → IsSeries IsValue r b → IsSeries IsValue r (series_sum r a b)
  sum_is_series a b sa sb =
      let m = int_min a.low b.low in
      let n = length-listed (plus r (from r m a) (from r m b)) (min (known m a) (known m b)) in
      let la = sa.bounded.low in let lb = sb.bounded.low in let ua = sa.bounded.upto in let ub = sb.bounded.upto in
      let oa = above_is m a.low in let ob = above_is m b.low in
      record { bounded = record { low = omega (arith, ints, clamps); upto = omega (arith, ints, clamps) }; values = value_series_sum laws a b sa.values sb.values }

  pub product_bounded : (a b : Terms A) → IsWithin (a.low +ℤ b.low) → IsWithin (product_upto a b) → IsBounded (series_product r a b)
  product_bounded a b low last =
      let n = length-listed (convolution r (at r a.coefficients) (at r b.coefficients)) (min (length a.coefficients) (length b.coefficients)) in
      record { low = low; upto = omega (arith, ints, clamps) }

  pub product_is_series : (a b : Terms A) → IsBounded (series_product r a b) → IsSeries IsValue r a → IsSeries IsValue r b → IsSeries IsValue r (series_product r a b)
  product_is_series a b bounded sa sb = record { bounded = bounded; values = value_series_product laws a b sa.values sb.values }

  pub scale_is_series : (c : A) (a : Terms A) → IsValue c → IsSeries IsValue r a → IsSeries IsValue r (series_scale r c a)
  scale_is_series c a v s =
      let n = length-listed (scaled r c (at r a.coefficients)) (length a.coefficients) in let la = s.bounded.low in let ua = s.bounded.upto in
      record { bounded = record { low = la; upto = omega (arith, ints) }; values = value_listed laws (scaled r c (at r a.coefficients)) (length a.coefficients) (value_scaled laws c (at r a.coefficients) v s.values) }

pub quotient_result : {A : Type 0} (r : Operations A) (a b : Terms A) (low : ℤ) (count : ℕ) (xs ys items : List A) → xs ≡ a.coefficients → ys ≡ b.coefficients → low ≡ a.low → count ≡ min (length xs) (length ys)
    → items ≡ quotients r (at r xs) (at r ys) count → terms low items ≡ series_quotient r a b
quotient_result r a b low count xs ys items ex ey el ec ei = terms-same low a.low items _ el (ei ∙ rw (ec, ex, ey) refl)

pub quotient_wide_result : {A : Type 0} (r : Operations A) (a b : Terms A) (low : ℤ) (count : ℕ) (xs ys : List A) (fault : SeriesFault) → xs ≡ a.coefficients → ys ≡ b.coefficients → low ≡ a.low → count ≡ min (length xs) (length ys)
    → OnWide fault (λ n. IsWideAt low n count (quotient_size r (at r xs) (at r ys) (at r (quotients r (at r xs) (at r ys) count)))) → OnWide fault (IsQuotientWide r a b)
quotient_wide_result r a b low count xs ys Memory ex ey el ec wide = tt
quotient_wide_result r a b low count xs ys (Wide n) ex ey el ec wide = let w = rw (el, ec, ex, ey) at wide in w

pub quotient_reaches : {A : Type 0} (r : Operations A) (a b : Terms A) (count : ℕ) (xs ys : List A) → xs ≡ a.coefficients → ys ≡ b.coefficients → count ≡ min (length xs) (length ys) → QuotientReaches r a b → ReachesAddUpTimes r count xs ys
quotient_reaches r a b count xs ys ex ey ec reaches = rw (ec, ex, ey) reaches

module _ {A : Type 0} {IsValue : A → Type 0} {r : Operations A} (laws : RingLaws IsValue r) where
  pub quotient_is_series : (a b : Terms A) → IsUnitSeries r b → IsSeries IsValue r a → IsSeries IsValue r b → IsSeries IsValue r (series_quotient r a b)
  quotient_is_series a b unit sa sb =
      let n = length-quotients r (at r a.coefficients) (at r b.coefficients) (min (length a.coefficients) (length b.coefficients)) in
      let la = sa.bounded.low in let ua = sa.bounded.upto in let lb = unit.low in let kb = unit.known in
      record { bounded = record { low = la; upto = omega (arith, ints, clamps) }; values = value_series_quotient laws a b sa.values sb.values }
