-- Worked values of families.
use Rattle.std.specs.Prelude.{◌≡◌, ℤ, pos, negsuc, List, [], ◌∷◌, refl}
use Rattle.tv_ring.specs.Sums.{at, sum_below, term}
use Rattle.tv_ring.specs.Whole.{wholes}
use Rattle.tv_laws_series.specs.Terms.{Terms, terms, above, from, padded, listed, plus}
use Rattle.tv_laws_series.specs.Quotients.{owed, quotients}
use Rattle.tv_spec_series.specs.Families.{Family, row, without_rows, added, divided, put, find, comes_before, coefficient, coefficient_of}

abbrev one : Terms ℤ
one = terms (pos 0) (pos 1 ∷ [])

abbrev exceptional : List ℤ
exceptional = pos 1 ∷ negsuc 0 ∷ []

abbrev empty : Family ℤ
empty = without_rows (pos 1 ∷ pos 0 ∷ []) (pos 1) (pos 0)

-- the class (1, -1) with the series 1 added twice: one row with the coefficient 2
added_twice : added wholes exceptional one (added wholes exceptional one empty) ≡ record empty { rows = row exceptional (terms (pos 0) (pos 2 ∷ [])) ∷ [] }
unfolding put comes_before above from padded listed plus at
added_twice = refl

-- its coefficients at 0 and beyond what is known
added_twice_coefficient : coefficient_of wholes (added wholes exceptional one (added wholes exceptional one empty)) exceptional (pos 0) ≡ pos 2
unfolding put comes_before above from padded listed plus at find coefficient
added_twice_coefficient = refl

-- the class (0, 1) of degree 0 comes before (1, -1) of degree 1
lower_degree_first : (added wholes (pos 0 ∷ pos 1 ∷ []) one (added wholes exceptional one empty)).rows ≡ row (pos 0 ∷ pos 1 ∷ []) one ∷ row exceptional one ∷ []
unfolding put comes_before above from padded listed plus at
lower_degree_first = refl

-- the class (1, -1) with the series 1, divided by 1
divided_by_one : divided wholes one (added wholes exceptional one empty) ≡ added wholes exceptional one empty
unfolding put comes_before above from padded listed plus at quotients owed sum_below term
divided_by_one = refl
