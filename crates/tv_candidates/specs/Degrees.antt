-- Classes by their degrees.
--
-- of_degree d entries == the classes of the entries, each a row with its degree, that have the degree d
-- listed f            == the rows of the family with the degrees of their classes
-- sums_at d e f       == the sums of a class of degree d and a class of degree e of the family
use Rattle.std.specs.Prelude.{ℤ, List, [], ◌∷◌, map, if◌then◌else◌}
use Rattle.std.specs.Ordering.{int_eq}
use Rattle.tv_spec_series.specs.Families.{Row, Family}
use Rattle.tv_graded.specs.Listing.{with_degree}
use Rattle.tv_candidates.specs.Sums.{pair_sums}

abbrev pub of_degree : {A : Type 0} → ℤ → List (Row A × ℤ) → List (List ℤ)
of_degree d [] = []
of_degree d (entry ∷ entries) = if int_eq entry.1 d then entry.0.class ∷ of_degree d entries else of_degree d entries

abbrev pub listed : {A : Type 0} → Family A → List (Row A × ℤ)
listed f = map (with_degree f.heights) f.rows

abbrev pub sums_at : {A : Type 0} → ℤ → ℤ → Family A → List (List ℤ)
sums_at d e f = pair_sums (of_degree d (listed f)) (of_degree e (listed f))
