-- Worked values: remainders of numbers from 0 on and below 0, and the report of one class by residues.
use Rattle.std.specs.Prelude.{◌≡◌, ℕ, ℤ, pos, negsuc, List, [], ◌∷◌, codes, refl}
use Rattle.std.specs.Fmt.{digits}
use Rattle.tv_spec_text.specs.Lines.{line_text}
use Rattle.tv_spec_reports.specs.Residues.{first_modulus, second_modulus, remainder, ResidueTerm, ResidueSection, residues_text}

of_zero : remainder first_modulus (pos 0) ≡ 0
of_zero = refl

above : remainder first_modulus (pos 1000000012) ≡ 5
above = refl

below : remainder first_modulus (negsuc 97) ≡ 999999909
below = refl

below_second : remainder second_modulus (negsuc 97) ≡ 998244255
below_second = refl

-- below 0 and beyond the modulus
below_far : remainder first_modulus (negsuc 1000000011) ≡ 1000000002
below_far = refl

below_far_second : remainder second_modulus (negsuc 1000000011) ≡ 996488694
below_far_second = refl

-- a whole multiple leaves none
multiple : remainder second_modulus (negsuc 998244352) ≡ 0
multiple = refl

term : ℤ → ℕ → ℕ → ResidueTerm
term n r s = record { exponent = n; first = r; second = s }

grid_section : ResidueSection
grid_section = record { degree = pos 0; entries = pos 0 ∷ pos 0 ∷ []; terms = term (pos 0) 1 1 ∷ term (pos 1) 999999909 998244255 ∷ term (pos 2) 5047 5047 ∷ [] }

grid_report : residues_text (codes "full") (pos 0 ∷ negsuc 0 ∷ []) (pos 0) (pos 2) (grid_section ∷ []) ≡ codes "report series full residues 1000000007 998244353\nheights 0 -1\ndegree 0\nupto 2\nclass 0 0 0\nterm 0 1 1\nterm 1 999999909 998244255\nterm 2 5047 5047\nend\n"
unfolding line_text digits grid_section term
grid_report = refl

-- one remainder is 0: the first line is that of 1000000007
curve_section : ResidueSection
curve_section = record { degree = pos 1; entries = pos 1 ∷ negsuc 0 ∷ []; terms = term (negsuc 1) 0 1755654 ∷ term (pos 3) 1 0 ∷ [] }

curve_report : residues_text (codes "reduced") (pos 1 ∷ pos 0 ∷ []) (pos 1) (pos 3) (curve_section ∷ []) ≡ codes "report series reduced residues 1000000007 998244353\nheights 1 0\ndegree 1\nupto 3\nclass 1 1 -1\nterm -2 0 1755654\nterm 3 1 0\nend\n"
unfolding line_text digits curve_section term
curve_report = refl

of_first : remainder second_modulus (pos 1000000007) ≡ 1755654
of_first = refl
