-- Worked values of the powers of s = 2 - y - 1/y and of the logarithmic series.
use Rattle.std.specs.Prelude.{◌≡◌, pos, negsuc, List, [], ◌∷◌, map, refl}
use Rattle.tv_spec_katz.specs.Binomials.{choose, sum_below}
use Rattle.tv_spec_katz.specs.Katz.{Integer}
use Rattle.tv_laws_katz.specs.Logarithm.{s_power_to, s_power, log_of_integer, logarithm}

-- 1/s is -(y + 2 y^2 + 3 y^3 + ..)
inverse : map (s_power 0 1) (negsuc 0 ∷ pos 0 ∷ pos 1 ∷ pos 2 ∷ pos 3 ∷ []) ≡ pos 0 ∷ pos 0 ∷ negsuc 0 ∷ negsuc 1 ∷ negsuc 2 ∷ []
unfolding s_power s_power_to sum_below
inverse = refl

-- s itself, and s in y^2
itself : map (s_power 2 1) (negsuc 1 ∷ negsuc 0 ∷ pos 0 ∷ pos 1 ∷ pos 2 ∷ []) ≡ pos 0 ∷ negsuc 0 ∷ pos 2 ∷ negsuc 0 ∷ pos 0 ∷ []
unfolding s_power s_power_to sum_below choose
itself = refl

in_squares : map (s_power 2 2) (negsuc 1 ∷ negsuc 0 ∷ pos 0 ∷ pos 1 ∷ pos 2 ∷ []) ≡ negsuc 0 ∷ pos 0 ∷ pos 2 ∷ pos 0 ∷ negsuc 0 ∷ []
unfolding s_power s_power_to sum_below choose
in_squares = refl

-- s^2 is 1/y^2 - 4/y + 6 - 4 y + y^2
square : map (s_power 3 1) (negsuc 1 ∷ negsuc 0 ∷ pos 0 ∷ pos 1 ∷ pos 2 ∷ []) ≡ pos 1 ∷ negsuc 3 ∷ pos 6 ∷ negsuc 3 ∷ pos 1 ∷ []
unfolding s_power s_power_to sum_below choose
square = refl

-- local P^2 through degree 2: in degree 2 the integer -6 counts twice, and 3 of degree 1 in y^2
plane : List Integer
plane = record { class = pos 2 ∷ []; genus = 0; value = negsuc 5 } ∷ record { class = pos 1 ∷ []; genus = 0; value = pos 3 } ∷ []

first_degree : map (logarithm (pos 1 ∷ []) 2 plane (pos 1 ∷ [])) (pos 1 ∷ pos 2 ∷ []) ≡ negsuc 2 ∷ negsuc 5 ∷ []
unfolding plane logarithm log_of_integer s_power s_power_to sum_below choose
first_degree = refl

second_degree : map (logarithm (pos 1 ∷ []) 2 plane (pos 2 ∷ [])) (pos 1 ∷ pos 2 ∷ []) ≡ pos 12 ∷ pos 21 ∷ []
unfolding plane logarithm log_of_integer s_power s_power_to sum_below choose
second_degree = refl
