-- The reduced series of the conifold and of local P^2 through degree 2, and their integers: for worked values here and above.
use Rattle.std.specs.Prelude.{ℤ, pos, negsuc, List, [], ◌∷◌}
use Rattle.tv_laws_series.specs.Terms.{terms}
use Rattle.tv_spec_series.specs.Families.{Family, row}
use Rattle.tv_spec_katz.specs.Katz.{Integer}

abbrev pub conifold_heights : List ℤ
conifold_heights = pos 0 ∷ pos 1 ∷ pos 0 ∷ pos 0 ∷ []

abbrev pub conifold_class : List ℤ
conifold_class = negsuc 0 ∷ pos 1 ∷ negsuc 0 ∷ pos 1 ∷ []

abbrev pub conifold_twice : List ℤ
conifold_twice = negsuc 1 ∷ pos 2 ∷ negsuc 1 ∷ pos 2 ∷ []

abbrev pub conifold_integer : List Integer
conifold_integer = record { class = conifold_class; genus = 0; value = pos 1 } ∷ []

abbrev pub conifold_series : Family ℤ
conifold_series = record {
  heights = conifold_heights;
  top = pos 2;
  upto = pos 5;
  rows = row (pos 0 ∷ pos 0 ∷ pos 0 ∷ pos 0 ∷ []) (terms (pos 0) (pos 1 ∷ pos 0 ∷ pos 0 ∷ pos 0 ∷ pos 0 ∷ pos 0 ∷ [])) ∷ row conifold_class (terms (pos 1) (pos 1 ∷ negsuc 1 ∷ pos 3 ∷ negsuc 3 ∷ pos 5 ∷ [])) ∷ row conifold_twice (terms (pos 3) (negsuc 1 ∷ pos 4 ∷ negsuc 9 ∷ [])) ∷ [];
}

abbrev pub plane_heights : List ℤ
plane_heights = pos 0 ∷ pos 1 ∷ pos 0 ∷ pos 0 ∷ []

abbrev pub line : List ℤ
line = negsuc 2 ∷ pos 1 ∷ pos 1 ∷ pos 1 ∷ []

abbrev pub conic : List ℤ
conic = negsuc 5 ∷ pos 2 ∷ pos 2 ∷ pos 2 ∷ []

abbrev pub plane_integers : List Integer
plane_integers = record { class = conic; genus = 0; value = negsuc 5 } ∷ record { class = line; genus = 0; value = pos 3 } ∷ []

abbrev pub plane_series : Family ℤ
plane_series = record {
  heights = plane_heights;
  top = pos 2;
  upto = pos 3;
  rows = row (pos 0 ∷ pos 0 ∷ pos 0 ∷ pos 0 ∷ []) (terms (pos 0) (pos 1 ∷ pos 0 ∷ pos 0 ∷ pos 0 ∷ [])) ∷ row line (terms (pos 1) (pos 3 ∷ negsuc 5 ∷ pos 9 ∷ [])) ∷ row conic (terms (pos 1) (negsuc 5 ∷ pos 15 ∷ negsuc 35 ∷ [])) ∷ [];
}
