-- Quotients of series by a series that begins with one.
--
--   owed r d g k          == d 0 * g k + .. + d (k - 1) * g 1
--   quotients r f g n     == the list d 0, .., d (n - 1), where d k == f k - owed r d g k
--   quotient_upto a b     == min(upto a, low a + upto b)
--   series_quotient r a b == the quotient of a by b, which begins at low a and is known through quotient_upto a b
--   IsUnitSeries r b      == b begins at 0, is known through 0, and has the coefficient one there
use Rattle.std.specs.Prelude.{◌≡◌, ℕ, zero, suc, min, ℤ, pos, ◌+ℤ◌, ◌≤ℤ◌, List, [], ◌∷◌, ◌++◌, length}
use Rattle.std.specs.Int.{int_min}
use Rattle.tv_ring.specs.Operations.{Operations}
use Rattle.tv_ring.specs.Sums.{at, term, sum_below}
use Rattle.tv_laws_series.specs.Terms.{Terms, terms, upto}

unfoldable pub owed : {A : Type 0} → Operations A → (ℕ → A) → (ℕ → A) → ℕ → A
owed r d g k = sum_below r (term r d g k) k

unfoldable pub quotients : {A : Type 0} → Operations A → (ℕ → A) → (ℕ → A) → ℕ → List A
quotients r f g zero = []
quotients r f g (suc n) = quotients r f g n ++ r.add (f n) (r.neg (owed r (at r (quotients r f g n)) g n)) ∷ []

abbrev pub quotient_upto : {A : Type 0} → Terms A → Terms A → ℤ
quotient_upto a b = int_min (upto a) (a.low +ℤ upto b)

abbrev pub series_quotient : {A : Type 0} → Operations A → Terms A → Terms A → Terms A
series_quotient r a b = terms a.low (quotients r (at r a.coefficients) (at r b.coefficients) (min (length a.coefficients) (length b.coefficients)))

pub record IsUnitSeries {A : Type 0} (r : Operations A) (b : Terms A) : Type 0 where
  pub low : b.low ≡ pos 0
  pub known : pos 0 ≤ℤ upto b
  pub unit : at r b.coefficients 0 ≡ r.unit
