-- The sections of a family of series: one for each class, with the coefficients other than 0.
--
-- terms_from low xs == the exponents from low on whose coefficient in the list isn't 0, each with it
-- terms_of t        == the terms of a series
-- section_of hs row == the class of the row with its degree, and the terms of its series
-- sections_of f     == the sections of the rows, in their order
-- TellsRow f row s  == the section has the class of the row, its degree, and each coefficient other than 0 through the
--                      exponent of the family
-- SectionsTell      == in every family of series of whole numbers the section of each row tells that row
use Rattle.std.specs.Prelude.{◌≡◌, ℤ, pos, ◌+ℤ◌, List, [], ◌∷◌, map, if◌then◌else◌}
use Rattle.std.specs.List.{AllByRecursion}
use Rattle.tv_ring.specs.Whole.{wholes, is_zero, IsAny}
use Rattle.tv_laws_series.specs.Terms.{Terms}
use Rattle.tv_spec_plane.specs.Web.{degree_of}
use Rattle.tv_spec_text.specs.Reports.{Term, Section, AreTerms}
use Rattle.tv_spec_series.specs.Families.{Row, Family, coefficient, IsFamily}

abbrev pub terms_from : ℤ → List ℤ → List Term
terms_from low [] = []
terms_from low (x ∷ xs) =
    if is_zero x then terms_from (low +ℤ pos 1) xs
    else record { exponent = low; coefficient = x } ∷ terms_from (low +ℤ pos 1) xs

abbrev pub terms_of : Terms ℤ → List Term
terms_of t = terms_from t.low t.coefficients

abbrev pub section_of : List ℤ → Row ℤ → Section
section_of hs row = record { degree = degree_of hs row.class; entries = row.class; terms = terms_of row.series }

abbrev pub sections_of : Family ℤ → List Section
sections_of f = map (section_of f.heights) f.rows

pub record TellsRow (f : Family ℤ) (row : Row ℤ) (s : Section) : Type 0 where
  pub degree : s.degree ≡ degree_of f.heights row.class
  pub entries : s.entries ≡ row.class
  pub terms : AreTerms (coefficient wholes row.series) f.upto s.terms

abbrev pub SectionsTell : Type 0
SectionsTell = (f : Family ℤ) → IsFamily IsAny wholes f → AllByRecursion (λ row. TellsRow f row (section_of f.heights row)) f.rows
