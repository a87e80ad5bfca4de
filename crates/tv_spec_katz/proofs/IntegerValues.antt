-- Worked values of the integers and of their bounds, under one height of 1, so that a class is its degree: where a number in
-- the definitions matters that the geometries of Values leave free.
use Rattle.std.specs.Prelude.{◌≡◌, ℕ, ℤ, pos, negsuc, List, [], ◌∷◌, map, refl}
use Rattle.tv_ring.specs.Sums.{at}
use Rattle.tv_laws_series.specs.Terms.{terms, above}
use Rattle.tv_spec_series.specs.Families.{Family, row, coefficient, find, comes_before}
use Rattle.tv_spec_katz.specs.Binomials.{choose, binomial, power_at, sum_below}
use Rattle.tv_spec_katz.specs.Places.{difference_by, unit}
use Rattle.tv_spec_katz.specs.Product.{times, product}
use Rattle.tv_spec_katz.specs.Katz.{Integer, katz}
use Rattle.tv_spec_katz.specs.Integers.{integers, candidates}
use Rattle.tv_spec_katz.specs.Majorant.{majorant, absolute_product, slope_of}

one : List ℤ
one = pos 1 ∷ []

integer : ℕ → ℕ → ℤ → Integer
integer d g z = record { class = pos d ∷ []; genus = g; value = z }

-- a family of class zero, of degree 1 and of degree 2, the coefficients of the last two from an exponent on
through_two : ℤ → List ℤ → ℤ → List ℤ → Family ℤ
through_two m xs n ys = record {
  heights = one;
  top = pos 2;
  upto = pos 1;
  rows = row (pos 0 ∷ []) (terms (pos 0) (pos 1 ∷ pos 0 ∷ [])) ∷ row (pos 1 ∷ []) (terms m xs) ∷ row (pos 2 ∷ []) (terms n ys) ∷ [];
}

-- 1 in genus 0 and in genus 2, in degree 1
zero_and_two : List Integer
zero_and_two = integer 1 0 (pos 1) ∷ integer 1 2 (pos 1) ∷ []

-- 2, 5, 2, 0 from exponent -1 in degree 2: factors of genus 0 with powers of y above |n| count, since those of genus 2 have
-- powers below 0
mixed_second : map (katz one zero_and_two (pos 2 ∷ [])) (negsuc 0 ∷ pos 0 ∷ pos 1 ∷ pos 2 ∷ []) ≡ pos 2 ∷ pos 5 ∷ pos 2 ∷ pos 0 ∷ []
unfolding one integer zero_and_two katz product times unit difference_by power_at binomial choose sum_below
mixed_second = refl

-- 1 in genus 2 is read off its own series, which begin at exponents below 0
genus_two_integers : integers 2 (through_two (negsuc 0) (pos 1 ∷ pos 2 ∷ pos 1 ∷ []) (negsuc 0) (pos 2 ∷ pos 4 ∷ pos 2 ∷ [])) ≡ integer 1 2 (pos 1) ∷ []
unfolding one integer through_two integers candidates comes_before find coefficient at above katz product times unit difference_by power_at binomial choose sum_below
genus_two_integers = refl

-- where the class of degree 2 has no series, the product over the first integer must be undone there
alone_in_one : Family ℤ
alone_in_one = record {
  heights = one;
  top = pos 2;
  upto = pos 1;
  rows = row (pos 0 ∷ []) (terms (pos 0) (pos 1 ∷ pos 0 ∷ [])) ∷ row (pos 1 ∷ []) (terms (negsuc 0) (pos 1 ∷ pos 2 ∷ pos 1 ∷ [])) ∷ [];
}

sum_is_candidate : candidates 2 alone_in_one ≡ (pos 1 ∷ []) ∷ (pos 2 ∷ []) ∷ []
unfolding one alone_in_one candidates comes_before
sum_is_candidate = refl

undone_integers : integers 2 alone_in_one ≡ integer 2 2 (negsuc 1) ∷ integer 1 2 (pos 1) ∷ []
unfolding one integer alone_in_one integers candidates comes_before find coefficient at above katz product times unit difference_by power_at binomial choose sum_below
undone_integers = refl

-- 2 in genus 2 and degree 1 is read from genus 2, and -1 in genus 3 and degree 2 from a genus above 1 + w, since the first
-- coefficient there is 1 - 1
hidden_integers : integers 2 (through_two (negsuc 0) (pos 2 ∷ pos 4 ∷ pos 2 ∷ []) (negsuc 0) (pos 4 ∷ pos 8 ∷ pos 4 ∷ [])) ≡ integer 2 3 (negsuc 0) ∷ integer 1 2 (pos 2) ∷ []
unfolding one integer through_two integers candidates comes_before find coefficient at above katz product times unit difference_by power_at binomial choose sum_below
hidden_integers = refl

-- of two classes of one degree the one with the lesser first entry comes first
two_classes : Family ℤ
two_classes = record {
  heights = pos 1 ∷ pos 1 ∷ [];
  top = pos 1;
  upto = pos 1;
  rows = row (pos 1 ∷ pos 0 ∷ []) (terms (pos 0) []) ∷ row (pos 0 ∷ pos 1 ∷ []) (terms (pos 0) []) ∷ [];
}

candidates_in_order : candidates 1 two_classes ≡ (pos 0 ∷ pos 1 ∷ []) ∷ (pos 1 ∷ pos 0 ∷ []) ∷ []
unfolding two_classes candidates comes_before
candidates_in_order = refl

-- the majorants of 1 in genus 2 through exponent 1 go on to 1 + 1 * 2, beyond the series: 2 + 4 * 2, 2 + 4 * 2, 0 + 4 * 1
beyond_majorants : map (majorant 2 (pos 1) (through_two (negsuc 0) (pos 1 ∷ pos 2 ∷ pos 1 ∷ []) (negsuc 0) (pos 2 ∷ pos 4 ∷ pos 2 ∷ [])) (integer 1 2 (pos 1) ∷ []) (pos 2 ∷ [])) (negsuc 0 ∷ pos 1 ∷ pos 2 ∷ pos 3 ∷ pos 4 ∷ []) ≡ 10 ∷ 10 ∷ 4 ∷ 0 ∷ 0 ∷ []
unfolding one integer through_two majorant absolute_product comes_before find coefficient at above product times unit difference_by power_at binomial choose sum_below
beyond_majorants = refl

-- a coefficient beyond the exponent asked for is not counted, though the series goes on: 2 * 2
longer_series : Family ℤ
longer_series = record {
  heights = one;
  top = pos 1;
  upto = pos 3;
  rows = row (pos 0 ∷ []) (terms (pos 0) (pos 1 ∷ pos 0 ∷ pos 0 ∷ pos 0 ∷ [])) ∷ row (pos 1 ∷ []) (terms (negsuc 0) (pos 1 ∷ pos 2 ∷ pos 2 ∷ negsuc 1 ∷ pos 3 ∷ [])) ∷ [];
}

uncounted_majorant : majorant 1 (pos 1) longer_series zero_and_two (pos 1 ∷ []) (pos 2) ≡ 4
unfolding one integer zero_and_two longer_series majorant absolute_product comes_before find coefficient at above product times unit difference_by power_at binomial choose sum_below
uncounted_majorant = refl

-- slopes are rounded up: (2 - 1) / 2 and (4 - 1) / 2
rounded_slopes : map (slope_of one) (integer 2 2 (pos 1) ∷ integer 2 4 (pos 1) ∷ []) ≡ 1 ∷ 2 ∷ []
unfolding one integer
rounded_slopes = refl
