-- The laws of sums and products of series, to the order that both sides know.
--
--   HasValues IsValue r a == each coefficient of a is a value
--   SeriesLaws IsValue r  == they are commutative, associative and distributive
use Rattle.std.specs.Prelude.{◌≡◌}
use Rattle.tv_ring.specs.Operations.{Operations}
use Rattle.tv_ring.specs.Sums.{AreValues, at}
use Rattle.tv_laws_series.specs.Terms.{Terms}
use Rattle.tv_laws_series.specs.Series.{series_sum, series_product}

abbrev pub HasValues : {A : Type 0} → (A → Type 0) → Operations A → Terms A → Type 0
HasValues IsValue r a = AreValues IsValue (at r a.coefficients)

pub record SeriesLaws {A : Type 0} (IsValue : A → Type 0) (r : Operations A) : Type 0 where
  pub sum_comm : (a b : Terms A) → HasValues IsValue r a → HasValues IsValue r b → series_sum r a b ≡ series_sum r b a
  pub sum_assoc : (a b c : Terms A) → HasValues IsValue r a → HasValues IsValue r b → HasValues IsValue r c
      → series_sum r (series_sum r a b) c ≡ series_sum r a (series_sum r b c)
  pub product_comm : (a b : Terms A) → HasValues IsValue r a → HasValues IsValue r b → series_product r a b ≡ series_product r b a
  pub product_assoc : (a b c : Terms A) → HasValues IsValue r a → HasValues IsValue r b → HasValues IsValue r c
      → series_product r (series_product r a b) c ≡ series_product r a (series_product r b c)
  pub product-sum : (a b c : Terms A) → HasValues IsValue r a → HasValues IsValue r b → HasValues IsValue r c
      → series_product r a (series_sum r b c) ≡ series_sum r (series_product r a b) (series_product r a c)
