-- Worked values of products and quotients of full series.
use Rattle.std.specs.Prelude.{◌≡◌, ℤ, pos, negsuc, List, [], ◌∷◌, map, refl}
use Rattle.tv_ring.specs.Sums.{at}
use Rattle.tv_ring.specs.Whole.{wholes}
use Rattle.tv_laws_series.specs.Terms.{terms, above}
use Rattle.tv_spec_series.specs.Families.{coefficient}
use Rattle.tv_spec_series.specs.Reduced.{product_at, quotient_size}

-- the series of a list of coefficients
abbrev listed : ℤ → List ℤ → ℤ → ℤ
listed low xs n = coefficient wholes (terms low xs) n

-- the conifold in degree 1: 1, -2, 3 from exponent 1, times 1, -2, 7 of class zero, is 1, -4, 14
conifold_product : map (product_at (pos 1) (pos 0) (listed (pos 1) (pos 1 ∷ negsuc 1 ∷ pos 3 ∷ [])) (listed (pos 0) (pos 1 ∷ negsuc 1 ∷ pos 7 ∷ []))) (pos 0 ∷ pos 1 ∷ pos 2 ∷ pos 3 ∷ []) ≡ pos 0 ∷ pos 1 ∷ negsuc 3 ∷ pos 14 ∷ []
unfolding product_at above at coefficient
conifold_product = refl

-- local P^2 in degree 1: 3, -6, 9 from exponent 1, times 1, -3, 12, is 3, -15, 63
plane_product : map (product_at (pos 1) (pos 0) (listed (pos 1) (pos 3 ∷ negsuc 5 ∷ pos 9 ∷ [])) (listed (pos 0) (pos 1 ∷ negsuc 2 ∷ pos 12 ∷ []))) (pos 1 ∷ pos 2 ∷ pos 3 ∷ []) ≡ pos 3 ∷ negsuc 14 ∷ pos 63 ∷ []
unfolding product_at above at coefficient
plane_product = refl

-- its size at exponent 3: 63 + 3 * 6 + 12 * 3
plane_size : quotient_size (listed (pos 1) (pos 3 ∷ negsuc 14 ∷ pos 63 ∷ [])) (listed (pos 0) (pos 1 ∷ negsuc 2 ∷ pos 12 ∷ [])) (listed (pos 1) (pos 3 ∷ negsuc 5 ∷ pos 9 ∷ [])) (pos 1) (pos 0) (pos 3) ≡ 117
unfolding quotient_size above at coefficient
plane_size = refl

-- ---- class zero from an exponent below 0: one corner whose legs along x and y have one cell each, which meet in a cell

abbrev meeting : ℤ → ℤ
meeting = listed (negsuc 0) (negsuc 0 ∷ pos 2 ∷ negsuc 5 ∷ [])

-- the reduced series of class zero is 1
meeting_product : map (product_at (pos 0) (negsuc 0) (listed (pos 0) (pos 1 ∷ [])) meeting) (negsuc 1 ∷ negsuc 0 ∷ pos 0 ∷ pos 1 ∷ []) ≡ pos 0 ∷ negsuc 0 ∷ pos 2 ∷ negsuc 5 ∷ []
unfolding product_at above at coefficient
meeting_product = refl

-- 3, -6, 9 from exponent 1, times -1, 2, -6 from -1, is -3, 12, -39 from 0
later_product : map (product_at (pos 1) (negsuc 0) (listed (pos 1) (pos 3 ∷ negsuc 5 ∷ pos 9 ∷ [])) meeting) (negsuc 0 ∷ pos 0 ∷ pos 1 ∷ pos 2 ∷ []) ≡ pos 0 ∷ negsuc 2 ∷ pos 12 ∷ negsuc 38 ∷ []
unfolding product_at above at coefficient
later_product = refl

-- its size at exponent 3: 39 + 2 * 6 + 6 * 3
later_size : quotient_size (listed (pos 0) (negsuc 2 ∷ pos 12 ∷ negsuc 38 ∷ [])) meeting (listed (pos 1) (pos 3 ∷ negsuc 5 ∷ pos 9 ∷ [])) (pos 1) (negsuc 0) (pos 3) ≡ 69
unfolding quotient_size above at coefficient
later_size = refl
