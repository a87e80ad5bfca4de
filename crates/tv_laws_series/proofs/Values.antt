-- Worked values of quotients.
use Rattle.std.specs.Prelude.{◌≡◌, pos, negsuc, [], ◌∷◌, refl}
use Rattle.tv_ring.specs.Sums.{at, sum_below, term}
use Rattle.tv_ring.specs.Whole.{wholes}
use Rattle.tv_laws_series.specs.Terms.{terms}
use Rattle.tv_laws_series.specs.Quotients.{owed, quotients, series_quotient}

-- 1 / (1 - X) = 1 + X + X^2 + X^3 + ..
geometric : series_quotient wholes (terms (pos 0) (pos 1 ∷ pos 0 ∷ pos 0 ∷ pos 0 ∷ [])) (terms (pos 0) (pos 1 ∷ negsuc 0 ∷ pos 0 ∷ pos 0 ∷ [])) ≡ terms (pos 0) (pos 1 ∷ pos 1 ∷ pos 1 ∷ pos 1 ∷ [])
unfolding quotients owed sum_below term at
geometric = refl

-- (1 - 2 X + 7 X^2 - ..) / (1 - X + 3 X^2 - ..) = 1 - X + 3 X^2 - ..
square_root : series_quotient wholes (terms (pos 0) (pos 1 ∷ negsuc 1 ∷ pos 7 ∷ negsuc 17 ∷ pos 47 ∷ [])) (terms (pos 0) (pos 1 ∷ negsuc 0 ∷ pos 3 ∷ negsuc 5 ∷ pos 13 ∷ [])) ≡ terms (pos 0) (pos 1 ∷ negsuc 0 ∷ pos 3 ∷ negsuc 5 ∷ pos 13 ∷ [])
unfolding quotients owed sum_below term at
square_root = refl

-- X^-1 / (1 - X), known through 1
lower_dividend : series_quotient wholes (terms (negsuc 0) (pos 1 ∷ pos 0 ∷ pos 0 ∷ pos 0 ∷ [])) (terms (pos 0) (pos 1 ∷ negsuc 0 ∷ pos 0 ∷ [])) ≡ terms (negsuc 0) (pos 1 ∷ pos 1 ∷ pos 1 ∷ [])
unfolding quotients owed sum_below term at
lower_dividend = refl
