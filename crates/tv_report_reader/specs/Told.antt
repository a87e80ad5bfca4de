-- What a report tells, as series and integers.
--
-- value_at ts n    == the coefficient of the first term at the exponent n, and 0 where there is none
-- lowest N ts      == the exponent of the first term, and N + 1 where there is none
-- series_of N ts   == the series that begins at the first term, is known through N, and has the terms' coefficients, 0 elsewhere
-- row_of N s       == the class of the section, with its series
-- family_of d      == the family of the report: a row for each section, in order
-- integer_of v i   == the integer of the class v
-- section_integers s == the integers of the section
-- integers_of ss   == the integers of the sections, last section first, and in a section the least genus first
-- AreSeriesTerms N ts == terms that rise, through the exponent N, which a report may have
-- HasSeries f s    == the section's class has a place in the family, and its terms are those of a series
-- StartsFamily f ss == the family has no row yet, and each section a place in it; their classes rise
-- HasExponent ts n == the first term is at the exponent n
-- Cursor ts rest n == from n on the terms have the values of the rest, which begins at n or above
-- CanPut k s i     == the integer i of the section's class comes later than all that are kept
-- HasIntegers hs s == the section's integers are as the grammar asks, and its class is positive where it has some
-- MayTake k s      == so, and the section's class comes later than all that are kept
-- StartsIntegers k ss == no integer is kept yet, and the sections have such integers; their classes rise
-- IsTold d r       == the report r has the family of the data d, and its integers under the same heights
use Rattle.std.specs.Prelude.{◌≡◌, ◌≢◌, ◌<◌, ℤ, pos, ◌+ℤ◌, ◌≤ℤ◌, List, [], ◌∷◌, ◌++◌, length, map, if◌then◌else◌}
use Rattle.std.specs.List.{AllByRecursion}
use Rattle.std.specs.Ordering.{int_eq}
use Rattle.tv_laws_series.specs.Terms.{Terms, terms, above, listed}
use Rattle.tv_spec_series.specs.Families.{Row, Family, row, HasPlace}
use Rattle.tv_spec_boxes.specs.Classes.{IsBefore, ClassesRise}
use Rattle.tv_spec_katz.specs.Katz.{Integer}
use Rattle.tv_spec_katz.specs.Relations.{IsPositiveClass, ComesLater}
use Rattle.tv_integers.specs.Kept.{Kept}
use Rattle.tv_integers.specs.declared.report.Report.{Report}
use Rattle.tv_spec_text.specs.Reports.{Term, Rises}
use Rattle.tv_spec_reports.specs.IntegerLines.{GenusValue, GvSection}
use Rattle.tv_spec_reports.specs.Grammar.{GvData, GvTermFits, IntegerFits, GeneraRise}
use Rattle.tv_report_reader.specs.Checks.{OrderFits}

unfoldable pub value_at : List Term → ℤ → ℤ
value_at [] n = pos 0
value_at (t ∷ ts) n = if int_eq t.exponent n then t.coefficient else value_at ts n

abbrev pub lowest : ℤ → List Term → ℤ
lowest N [] = N +ℤ pos 1
lowest N (t ∷ ts) = t.exponent

unfoldable pub series_of : ℤ → List Term → Terms ℤ
series_of N ts = terms (lowest N ts) (listed (λ k. value_at ts (lowest N ts +ℤ pos k)) (above (lowest N ts) (N +ℤ pos 1)))

abbrev pub row_of : ℤ → GvSection → Row ℤ
row_of N s = row s.section.entries (series_of N s.section.terms)

abbrev pub family_of : GvData → Family ℤ
family_of d = record { heights = d.heights; top = d.degree; upto = d.upto; rows = map (row_of d.upto) d.sections }

abbrev pub integer_of : List ℤ → GenusValue → Integer
integer_of v i = record { class = v; genus = i.genus; value = i.value }

abbrev pub section_integers : GvSection → List Integer
section_integers s = map (integer_of s.section.entries) s.integers

unfoldable pub integers_of : List GvSection → List Integer
integers_of [] = []
integers_of (s ∷ ss) = integers_of ss ++ section_integers s

pub record IsTold (d : GvData) (r : Report) : Type 0 where
  pub series : r.series ≡ family_of d
  pub integers : r.integers ≡ record { heights = d.heights; integers = integers_of d.sections }

pub record AreSeriesTerms (N : ℤ) (ts : List Term) : Type 0 where
  pub order : OrderFits N
  pub each : AllByRecursion (GvTermFits N) ts
  pub rises : Rises ts

pub record HasSeries (f : Family ℤ) (s : GvSection) : Type 0 where
  pub place : HasPlace f.heights f.top s.section.entries
  pub terms : AreSeriesTerms f.upto s.section.terms

pub record StartsFamily (f : Family ℤ) (ss : List GvSection) : Type 0 where
  pub none : f.rows ≡ []
  pub each : AllByRecursion (HasSeries f) ss
  pub rise : ClassesRise f.heights (map (λ p. p.section.entries) ss)

abbrev pub HasExponent : List Term → ℤ → Type 0
HasExponent [] n = ⊥
HasExponent (t ∷ ts) n = t.exponent ≡ n

pub record Cursor (ts rest : List Term) (n : ℤ) : Type 0 where
  pub values : (m : ℤ) → n ≤ℤ m → value_at ts m ≡ value_at rest m
  pub above : AllByRecursion (λ (t : Term). n ≤ℤ t.exponent) rest
  pub rises : Rises rest

pub record CanPut (k : Kept) (s : GvSection) (i : GenusValue) : Type 0 where
  pub class : IsPositiveClass k.heights s.section.entries
  pub value : i.value ≢ pos 0
  pub later : AllByRecursion (ComesLater k.heights (integer_of s.section.entries i)) k.integers

pub record HasIntegers (hs : List ℤ) (s : GvSection) : Type 0 where
  pub class : 0 < length s.integers → IsPositiveClass hs s.section.entries
  pub values : AllByRecursion IntegerFits s.integers
  pub genera : GeneraRise s.integers

pub record MayTake (k : Kept) (s : GvSection) : Type 0 where
  pub section : HasIntegers k.heights s
  pub later : AllByRecursion (λ (j : Integer). IsBefore k.heights j.class s.section.entries) k.integers

pub record StartsIntegers (k : Kept) (ss : List GvSection) : Type 0 where
  pub none : k.integers ≡ []
  pub each : AllByRecursion (HasIntegers k.heights) ss
  pub rise : ClassesRise k.heights (map (λ (p : GvSection). p.section.entries) ss)
