-- Truncated series: coefficients that are known through an exponent, zero below the lowest one.
--
--   series_sum r a b      == the sum, known through the lesser of both last exponents
--   product_upto a b      == min(low a + upto b, low b + upto a)
--   series_product r a b  == the product, known through product_upto a b
--   series_shift k a      == each exponent moved by k
--   series_scale r c a    == each coefficient multiplied by c
--   series_cut n a        == what is known through n; it begins at n + 1 where that is below its low
--   IsSeries IsValue r a  == the exponents are bounded, and each coefficient is a value
use Rattle.std.specs.Prelude.{min, ℤ, pos, ◌+ℤ◌, length, take}
use Rattle.std.specs.Int.{int_min}
use Rattle.tv_ring.specs.Operations.{Operations}
use Rattle.tv_ring.specs.Sums.{AreValues, at, convolution}
use Rattle.tv_laws_series.specs.Terms.{Terms, terms, above, upto, from, known, listed, plus, scaled, IsBounded}

abbrev pub series_sum : {A : Type 0} → Operations A → Terms A → Terms A → Terms A
series_sum r a b = let m = int_min a.low b.low in terms m (listed (plus r (from r m a) (from r m b)) (min (known m a) (known m b)))

abbrev pub product_upto : {A : Type 0} → Terms A → Terms A → ℤ
product_upto a b = int_min (a.low +ℤ upto b) (b.low +ℤ upto a)

abbrev pub series_product : {A : Type 0} → Operations A → Terms A → Terms A → Terms A
series_product r a b = terms (a.low +ℤ b.low) (listed (convolution r (at r a.coefficients) (at r b.coefficients)) (min (length a.coefficients) (length b.coefficients)))

abbrev pub series_shift : {A : Type 0} → ℤ → Terms A → Terms A
series_shift k a = terms (a.low +ℤ k) a.coefficients

abbrev pub series_scale : {A : Type 0} → Operations A → A → Terms A → Terms A
series_scale r c a = terms a.low (listed (scaled r c (at r a.coefficients)) (length a.coefficients))

abbrev pub series_cut : {A : Type 0} → ℤ → Terms A → Terms A
series_cut n a = terms (int_min a.low (n +ℤ pos 1)) (take (above a.low (n +ℤ pos 1)) a.coefficients)

pub record IsSeries {A : Type 0} (IsValue : A → Type 0) (r : Operations A) (a : Terms A) : Type 0 where
  pub bounded : IsBounded a
  pub values : AreValues IsValue (at r a.coefficients)
