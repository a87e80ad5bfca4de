-- Products of powers of 1 - X, coefficient by coefficient. Each place X has the degree of its class, and that is at least 1.
--
-- Factor           == (1 - X)^power, with X at a place
-- times most f rest p == the coefficient at p of the factor times the series rest, with powers of X up to most: a sum over
--                     the powers of X
-- product fs p     == the coefficient at p of the product of the factors: the sum over all choices of a power k for each
--                     factor, such that the classes k times class add up to that of p and the exponents likewise, of the
--                     products of (-1)^k binomial(power, k)
use Rattle.std.specs.Prelude.{ℕ, suc, ℤ, ◌*ℤ◌, List, [], ◌∷◌}
use Rattle.tv_lemmas.specs.Naturals.{as_natural}
use Rattle.tv_spec_katz.specs.Binomials.{power_at, sum_below}
use Rattle.tv_spec_katz.specs.Places.{Place, difference_by, unit}

pub record Factor : Type 0 where
  pub at : Place
  pub power : ℤ

unfoldable pub times : ℕ → Factor → (Place → ℤ) → Place → ℤ
times most f rest p = sum_below (λ k. power_at f.power k *ℤ rest (difference_by k p f.at)) (suc most)

-- a place of positive degree is taken off at most as often as the degree says
unfoldable pub product : List Factor → Place → ℤ
product [] p = unit p
product (f ∷ fs) p = times (as_natural p.degree) f (product fs) p
