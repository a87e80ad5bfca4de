-- Worked values of binomials, of powers, of Katz's product and of the integers.
use Rattle.std.specs.Prelude.{◌≡◌, ℕ, ℤ, pos, negsuc, List, [], ◌∷◌, map, refl}
use Rattle.tv_ring.specs.Sums.{at}
use Rattle.tv_laws_series.specs.Terms.{terms, above}
use Rattle.tv_spec_series.specs.Families.{Family, row, coefficient, find, comes_before}
use Rattle.tv_spec_katz.specs.Binomials.{choose, binomial, power_at, sum_below}
use Rattle.tv_spec_katz.specs.Places.{difference_by, unit}
use Rattle.tv_spec_katz.specs.Product.{times, product}
use Rattle.tv_spec_katz.specs.Katz.{Integer, katz}
use Rattle.tv_spec_katz.specs.Integers.{integers, candidates}
use Rattle.tv_spec_katz.proofs.Samples.{conifold_heights, conifold_class, conifold_twice, conifold_integer, conifold_series, plane_heights, line, conic, plane_integers, plane_series}
use Rattle.tv_spec_katz.specs.Majorant.{majorant, absolute_product, greatest_slope}

-- a binomial with an upper entry below 0, and with one that isn't
negative_binomials : binomial (negsuc 1) 3 ∷ binomial (negsuc 0) 4 ∷ [] ≡ negsuc 3 ∷ pos 1 ∷ []
unfolding binomial choose
negative_binomials = refl

natural_binomials : binomial (pos 3) 2 ∷ binomial (pos 0) 0 ∷ binomial (pos 2) 3 ∷ [] ≡ pos 3 ∷ pos 1 ∷ pos 0 ∷ []
unfolding binomial choose
natural_binomials = refl

-- (1 - X)^-2 begins with 1, 2, 3, and (1 - X)^2 is 1 - 2 X + X^2
inverse_square : map (power_at (negsuc 1)) (0 ∷ 1 ∷ 2 ∷ []) ≡ pos 1 ∷ pos 2 ∷ pos 3 ∷ []
unfolding power_at binomial choose
inverse_square = refl

square : map (power_at (pos 2)) (0 ∷ 1 ∷ 2 ∷ 3 ∷ []) ≡ pos 1 ∷ negsuc 1 ∷ pos 1 ∷ pos 0 ∷ []
unfolding power_at binomial choose
square = refl

-- the one curve of the conifold: 1, -2, 3, -4, 5 in degree 1
conifold_first : map (λ n. katz conifold_heights conifold_integer conifold_class n) (pos 0 ∷ pos 1 ∷ pos 2 ∷ pos 3 ∷ pos 4 ∷ pos 5 ∷ []) ≡ pos 0 ∷ pos 1 ∷ negsuc 1 ∷ pos 3 ∷ negsuc 3 ∷ pos 5 ∷ []
unfolding katz product times unit difference_by power_at binomial choose sum_below
conifold_first = refl

-- and -2, 4, -10 from exponent 3 in degree 2
conifold_second : map (λ n. katz conifold_heights conifold_integer conifold_twice n) (pos 1 ∷ pos 2 ∷ pos 3 ∷ pos 4 ∷ pos 5 ∷ []) ≡ pos 0 ∷ pos 0 ∷ negsuc 1 ∷ pos 4 ∷ negsuc 9 ∷ []
unfolding katz product times unit difference_by power_at binomial choose sum_below
conifold_second = refl

-- the 1 is read off the series of both classes
pub conifold_integers_are : integers 2 conifold_series ≡ conifold_integer
unfolding integers candidates comes_before find coefficient at above katz product times unit difference_by power_at binomial choose sum_below
conifold_integers_are = refl

-- lines and conics of local P^2, 3 and -6: -6, 15, -36 in degree 2
plane_second : map (λ n. katz plane_heights plane_integers conic n) (pos 0 ∷ pos 1 ∷ pos 2 ∷ pos 3 ∷ []) ≡ pos 0 ∷ negsuc 5 ∷ pos 15 ∷ negsuc 35 ∷ []
unfolding katz product times unit difference_by power_at binomial choose sum_below
plane_second = refl

-- they are read off their series
pub plane_integers_are : integers 2 plane_series ≡ plane_integers
unfolding integers candidates comes_before find coefficient at above katz product times unit difference_by power_at binomial choose sum_below
plane_integers_are = refl

-- the majorant of the lines of local P^2 at exponent 1: 3 + 2 * 3
plane_majorant : majorant 2 (pos 3) plane_series plane_integers line (pos 1) ≡ 9
unfolding majorant absolute_product comes_before find coefficient at above product times unit difference_by power_at binomial choose sum_below
plane_majorant = refl

-- a list that is a part of the class has none
part_majorant : majorant 2 (pos 3) plane_series plane_integers (negsuc 2 ∷ pos 1 ∷ []) (pos 1) ≡ 0
unfolding majorant
part_majorant = refl

-- one height of 1, so that a class is its degree
alone : ℕ → ℤ → List Integer
alone g z = record { class = pos 1 ∷ []; genus = g; value = z } ∷ []

alone_at : ℕ → ℤ → ℕ → List ℤ → List ℤ
alone_at g z d ns = map (λ n. katz (pos 1 ∷ []) (alone g z) (pos d ∷ []) n) ns

-- an integer of genus 1: -10 in degree 1 at exponent 0, and 45 in degree 2
elliptic_first : alone_at 1 (negsuc 9) 1 (negsuc 0 ∷ pos 0 ∷ pos 1 ∷ []) ≡ pos 0 ∷ negsuc 9 ∷ pos 0 ∷ []
unfolding alone alone_at katz product times unit difference_by power_at binomial choose sum_below
elliptic_first = refl

elliptic_second : alone_at 1 (negsuc 9) 2 (negsuc 0 ∷ pos 0 ∷ pos 1 ∷ []) ≡ pos 0 ∷ pos 45 ∷ pos 0 ∷ []
unfolding alone alone_at katz product times unit difference_by power_at binomial choose sum_below
elliptic_second = refl

elliptic_series : Family ℤ
elliptic_series = record {
  heights = pos 1 ∷ [];
  top = pos 2;
  upto = pos 1;
  rows = row (pos 0 ∷ []) (terms (pos 0) (pos 1 ∷ pos 0 ∷ [])) ∷ row (pos 1 ∷ []) (terms (pos 0) (negsuc 9 ∷ pos 0 ∷ [])) ∷ row (pos 2 ∷ []) (terms (pos 0) (pos 45 ∷ pos 0 ∷ [])) ∷ [];
}

-- so the 45 of twice its class is no integer
elliptic_integers_are : integers 2 elliptic_series ≡ alone 1 (negsuc 9)
unfolding alone elliptic_series integers candidates comes_before find coefficient at above katz product times unit difference_by power_at binomial choose sum_below
elliptic_integers_are = refl

-- one of genus 2: 1, 2, 1 around exponent 0 in degree 1, and 2, 4, 2 in degree 2
genus_two_first : alone_at 2 (pos 1) 1 (negsuc 1 ∷ negsuc 0 ∷ pos 0 ∷ pos 1 ∷ pos 2 ∷ []) ≡ pos 0 ∷ pos 1 ∷ pos 2 ∷ pos 1 ∷ pos 0 ∷ []
unfolding alone alone_at katz product times unit difference_by power_at binomial choose sum_below
genus_two_first = refl

genus_two_second : alone_at 2 (pos 1) 2 (negsuc 2 ∷ negsuc 1 ∷ negsuc 0 ∷ pos 0 ∷ pos 1 ∷ pos 2 ∷ []) ≡ pos 0 ∷ pos 0 ∷ pos 2 ∷ pos 4 ∷ pos 2 ∷ pos 0 ∷ []
unfolding alone alone_at katz product times unit difference_by power_at binomial choose sum_below
genus_two_second = refl

-- without signs its product is 1, 2, 4, 2, 1 in degree 2
genus_two_absolute : map (λ n. absolute_product (pos 1 ∷ []) (alone 2 (pos 1)) (pos 2 ∷ []) n) (negsuc 1 ∷ negsuc 0 ∷ pos 0 ∷ pos 1 ∷ pos 2 ∷ []) ≡ pos 1 ∷ pos 2 ∷ pos 4 ∷ pos 2 ∷ pos 1 ∷ []
unfolding alone absolute_product product times unit difference_by power_at binomial choose sum_below
genus_two_absolute = refl

-- g - 1 at most c times the degree: 1 for genus 2 in degree 1, and an integer 0 does not count
slopes : map (greatest_slope (pos 1 ∷ [])) (alone 2 (pos 1) ∷ alone 2 (pos 0) ∷ alone 0 (pos 1) ∷ []) ≡ 1 ∷ 0 ∷ 0 ∷ []
unfolding alone
slopes = refl
