-- Katz's product over integers n_g(B), in the variable q = -y. The product over the integers of these factors, with n for n_g(B):
--   for g = 0, each j from 1 on:          (1 - y^j Q^B)^(j n)
--   for g >= 1, each k from 0 to 2g - 2:  (1 - y^(g-1-k) Q^B)^((-1)^(k+g) n binomial(2g-2, k))
--
-- Integer            == an integer n_g(B): the class B, the genus g, the value; heights give the degree of its class
-- factor_at hs i m e == the factor (1 - y^m Q^B)^e, with B the class of the integer
-- genus_zero hs J i  == the factors of genus 0 with j from 1 to J
-- higher_exponent i k, higher_power i k == g - 1 - k, and (-1)^(k+g) n binomial(2g-2, k)
-- higher_below hs n i == the factors of a higher genus with k below n
-- higher_genus hs i  == all of them
-- factors_by hs g J i == the factors of an integer of genus g
-- factors hs J is    == the factors of all integers
-- greatest_genus is  == the greatest genus; 0 where there is no integer
-- factor_bound hs is v n == J = |n| + (greatest genus) * degree: no factor of genus 0 with a greater j reaches the class v at
--                       the exponent n
-- katz hs is v n     == the coefficient of q^n Q^v: (-1)^n times that of y^n Q^v
use Rattle.std.specs.Prelude.{ℕ, zero, suc, ◌+◌, ◌-◌, ◌*◌, ℤ, pos, ◌-ℤ◌, ◌*ℤ◌, max, unsigned_abs, List, [], ◌∷◌}
use Rattle.std.specs.List.{flat_map}
use Rattle.tv_lemmas.specs.Naturals.{as_natural}
use Rattle.tv_spec_plane.specs.Web.{degree_of}
use Rattle.tv_spec_katz.specs.Binomials.{choose, power_sign}
use Rattle.tv_spec_katz.specs.Places.{place}
use Rattle.tv_spec_katz.specs.Product.{Factor, product}

pub record Integer : Type 0 where
  pub class : List ℤ
  pub genus : ℕ
  pub value : ℤ

abbrev pub factor_at : List ℤ → Integer → ℤ → ℤ → Factor
factor_at hs i exponent power = record { at = place hs i.class exponent; power = power }

-- from J down
abbrev pub genus_zero : List ℤ → ℕ → Integer → List Factor
genus_zero hs zero i = []
genus_zero hs (suc j) i = factor_at hs i (pos (suc j)) (pos (suc j) *ℤ i.value) ∷ genus_zero hs j i

abbrev pub higher_exponent : Integer → ℕ → ℤ
higher_exponent i k = (pos i.genus -ℤ pos 1) -ℤ pos k

abbrev pub higher_power : Integer → ℕ → ℤ
higher_power i k = (power_sign (k + i.genus) *ℤ i.value) *ℤ pos (choose (2 * i.genus - 2) k)

abbrev pub higher_below : List ℤ → ℕ → Integer → List Factor
higher_below hs zero i = []
higher_below hs (suc k) i = factor_at hs i (higher_exponent i k) (higher_power i k) ∷ higher_below hs k i

abbrev pub higher_genus : List ℤ → Integer → List Factor
higher_genus hs i = higher_below hs (2 * i.genus - 1) i

abbrev pub factors_by : List ℤ → ℕ → ℕ → Integer → List Factor
factors_by hs zero J i = genus_zero hs J i
factors_by hs (suc g) J i = higher_genus hs i

abbrev pub factors : List ℤ → ℕ → List Integer → List Factor
factors hs J is = flat_map (λ i. factors_by hs i.genus J i) is

abbrev pub greatest_genus : List Integer → ℕ
greatest_genus [] = 0
greatest_genus (i ∷ is) = max i.genus (greatest_genus is)

abbrev pub factor_bound : List ℤ → List Integer → List ℤ → ℤ → ℕ
factor_bound hs is v n = unsigned_abs n + greatest_genus is * as_natural (degree_of hs v)

unfoldable pub katz : List ℤ → List Integer → List ℤ → ℤ → ℤ
katz hs is v n = power_sign (unsigned_abs n) *ℤ product (factors hs (factor_bound hs is v n) is) (place hs v n)
