-- Worked values: the series of three terms with a gap, of none, and the integers of two classes.
use Rattle.std.specs.Prelude.{◌≡◌, ℤ, pos, negsuc, [], ◌∷◌, refl}
use Rattle.tv_laws_series.specs.Terms.{terms, above, listed}
use Rattle.tv_spec_text.specs.Reports.{Term}
use Rattle.tv_spec_reports.specs.IntegerLines.{GenusValue}
use Rattle.tv_report_reader.specs.Checks.{section_by}
use Rattle.tv_report_reader.specs.Told.{value_at, series_of, integer_of, integers_of}

term : ℤ → ℤ → Term
term n x = record { exponent = n; coefficient = x }

with_a_gap : series_of (pos 4) (term (pos 1) (pos 1) ∷ term (pos 3) (negsuc 1) ∷ []) ≡ terms (pos 1) (pos 1 ∷ pos 0 ∷ negsuc 1 ∷ pos 0 ∷ [])
unfolding series_of value_at listed above term
with_a_gap = refl

without_terms : series_of (pos 4) [] ≡ terms (pos 5) []
unfolding series_of value_at listed above
without_terms = refl

the_integer : GenusValue
the_integer = record { genus = 0; value = pos 1 }

later_class_first : integers_of (section_by (pos 1) (pos 1 ∷ []) [] (the_integer ∷ []) ∷ section_by (pos 2) (pos 2 ∷ []) [] (the_integer ∷ []) ∷ []) ≡ integer_of (pos 2 ∷ []) the_integer ∷ integer_of (pos 1 ∷ []) the_integer ∷ []
unfolding integers_of the_integer
later_class_first = refl
