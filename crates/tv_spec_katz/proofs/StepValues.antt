-- Worked values of the single steps: places, the number of factors, candidates, where reading begins, and which places have a
-- majorant.
use Rattle.std.specs.Prelude.{◌≡◌, ℤ, pos, negsuc, List, [], ◌∷◌, map, true, false, None, refl}
use Rattle.tv_ring.specs.Sums.{at}
use Rattle.tv_laws_series.specs.Terms.{terms, above}
use Rattle.tv_spec_boxes.specs.Assignments.{zeros}
use Rattle.tv_spec_series.specs.Families.{Family, row, coefficient, find, comes_before}
use Rattle.tv_spec_katz.specs.Binomials.{choose, binomial, power_at, sum_below}
use Rattle.tv_spec_katz.specs.Places.{place, difference, difference_by, unit}
use Rattle.tv_spec_katz.specs.Product.{times, product}
use Rattle.tv_spec_katz.specs.Katz.{Integer, factor_bound}
use Rattle.tv_spec_katz.specs.Integers.{candidates, depth_from, series_depth, genus_depth, first_genus}
use Rattle.tv_spec_katz.specs.Majorant.{majorant, absolute_product, greatest_slope, majorant_end, has_majorant}
use Rattle.tv_spec_katz.proofs.Samples.{conifold_class, conifold_integer, conifold_series}

-- (3, 4) has the degree 10 by heights 2 and 1; less (1, -1), whose degree is 1, it is (2, 5) of degree 9
one_difference : difference (place (pos 2 ∷ pos 1 ∷ []) (pos 3 ∷ pos 4 ∷ []) (pos 7)) (place (pos 2 ∷ pos 1 ∷ []) (pos 1 ∷ negsuc 0 ∷ []) (negsuc 1)) ≡ place (pos 2 ∷ pos 1 ∷ []) (pos 2 ∷ pos 5 ∷ []) (pos 9)
one_difference = refl

-- one at class zero and exponent 0 alone
units : map unit (place (pos 1 ∷ []) (pos 0 ∷ []) (pos 0) ∷ place (pos 1 ∷ []) (pos 0 ∷ []) (pos 1) ∷ place (pos 1 ∷ []) (pos 1 ∷ []) (pos 0) ∷ place (pos 1 ∷ pos 1 ∷ []) (pos 1 ∷ negsuc 0 ∷ []) (pos 0) ∷ []) ≡ pos 1 ∷ pos 0 ∷ pos 0 ∷ pos 0 ∷ []
unfolding unit
units = refl

-- nor is one there where a degree or an entry is below 0
no_units : map unit (record { degree = negsuc 0; class = pos 0 ∷ []; exponent = pos 0 } ∷ record { degree = pos 0; class = negsuc 0 ∷ []; exponent = pos 0 } ∷ record { degree = pos 0; class = pos 0 ∷ pos 1 ∷ []; exponent = pos 0 } ∷ []) ≡ pos 0 ∷ pos 0 ∷ pos 0 ∷ []
unfolding unit
no_units = refl

quartic : List Integer
quartic = record { class = pos 1 ∷ []; genus = 4; value = negsuc 0 } ∷ []

-- 5 + 4 * 6, with a height of 2 in degree 6, and 5 without integers
factor_bounds : map (λ is. factor_bound (pos 2 ∷ []) is (pos 3 ∷ []) (negsuc 4)) (quartic ∷ [] ∷ []) ≡ 29 ∷ 5 ∷ []
unfolding quartic
factor_bounds = refl

-- of degrees 2 and 1: by degree, then by the first entry, and (1, 1), which is a sum in two orders, once
two_heights : Family ℤ
two_heights = record {
  heights = pos 2 ∷ pos 1 ∷ [];
  top = pos 3;
  upto = pos 1;
  rows = row (zeros 2) (terms (pos 0) []) ∷ row (pos 1 ∷ pos 0 ∷ []) (terms (pos 0) []) ∷ row (pos 0 ∷ pos 1 ∷ []) (terms (pos 0) []) ∷ [];
}

candidates_by_degree : candidates 3 two_heights ≡ (pos 0 ∷ pos 1 ∷ []) ∷ (pos 0 ∷ pos 2 ∷ []) ∷ (pos 1 ∷ pos 0 ∷ []) ∷ (pos 0 ∷ pos 3 ∷ []) ∷ (pos 1 ∷ pos 1 ∷ []) ∷ []
unfolding two_heights candidates comes_before
candidates_by_degree = refl

-- 5 at exponent -2; 1 at exponent 0; none; -2 at exponent -1; 1 at exponent 2
depths : depth_from (pos 0 ∷ pos 0 ∷ pos 5 ∷ []) (negsuc 3) ∷ depth_from (pos 0 ∷ pos 1 ∷ []) (negsuc 0) ∷ depth_from [] (negsuc 2) ∷ depth_from (negsuc 1 ∷ pos 1 ∷ []) (negsuc 0) ∷ depth_from (pos 1 ∷ []) (pos 2) ∷ [] ≡ 2 ∷ 0 ∷ 0 ∷ 1 ∷ 0 ∷ []
depths = refl

no_series_depth : series_depth None ≡ 0
no_series_depth = refl

genus_depths : map genus_depth ([] ∷ quartic ∷ (record { class = pos 1 ∷ []; genus = 0; value = pos 1 } ∷ quartic) ∷ []) ≡ 0 ∷ 3 ∷ 3 ∷ []
unfolding quartic
genus_depths = refl

-- in degree 2 from 1 + 2 * 2 by a series that begins at -2, and from 1 + 2 * 3 by an integer of genus 4; in degree 1 from 1
conics_alone : Family ℤ
conics_alone = record { heights = pos 1 ∷ []; top = pos 2; upto = pos 1; rows = row (pos 2 ∷ []) (terms (negsuc 1) (pos 1 ∷ [])) ∷ [] }

first_genera : first_genus conics_alone (pos 2 ∷ []) [] ∷ first_genus conics_alone (pos 2 ∷ []) quartic ∷ first_genus conics_alone (pos 1 ∷ []) [] ∷ [] ≡ 5 ∷ 7 ∷ 1 ∷ []
unfolding conics_alone quartic find
first_genera = refl

-- an integer below 0 has a slope as well
below_zero_slope : greatest_slope (pos 1 ∷ []) quartic ≡ 3
unfolding quartic
below_zero_slope = refl

-- 5 + 3 * 2 is the last exponent of a class in degrees 0 to 2 that has an entry for each height
last_majorant : majorant_end 2 (pos 5) conics_alone quartic ≡ pos 11
unfolding conics_alone quartic
last_majorant = refl

majorant_exponents : map (has_majorant 2 (pos 5) conics_alone quartic (pos 1 ∷ [])) (negsuc 63 ∷ pos 11 ∷ pos 12 ∷ []) ≡ true ∷ true ∷ false ∷ []
unfolding conics_alone quartic
majorant_exponents = refl

majorant_classes : map (λ v. has_majorant 2 (pos 5) conics_alone quartic v (pos 0)) ((negsuc 0 ∷ []) ∷ (pos 0 ∷ []) ∷ (pos 2 ∷ []) ∷ (pos 3 ∷ []) ∷ (pos 1 ∷ pos 1 ∷ []) ∷ []) ≡ false ∷ true ∷ true ∷ false ∷ false ∷ []
unfolding conics_alone quartic
majorant_classes = refl

-- the conifold's curve: 1 + 2 * 1, 2 + 2 * 2, 3 + 2 * 3 from exponent 1, beyond 5 nothing; its class zero has 1
conifold_majorants : map (majorant 2 (pos 5) conifold_series conifold_integer conifold_class) (pos 0 ∷ pos 1 ∷ pos 2 ∷ pos 3 ∷ pos 6 ∷ []) ≡ 0 ∷ 3 ∷ 6 ∷ 9 ∷ 0 ∷ []
unfolding majorant absolute_product comes_before find coefficient at above product times unit difference_by power_at binomial choose sum_below
conifold_majorants = refl

zero_majorants : map (majorant 2 (pos 5) conifold_series conifold_integer (zeros 4)) (pos 0 ∷ pos 1 ∷ []) ≡ 1 ∷ 0 ∷ []
unfolding majorant absolute_product comes_before find coefficient at above product times unit difference_by power_at binomial choose sum_below
zero_majorants = refl
