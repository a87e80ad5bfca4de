-- The grammar in which a report of integers is read back, by how such a report is spelled.
--
-- GvData          == heights, degree, order, and the sections of a report
-- IsWideValue z   == other than 0, and printable
-- GvTermFits N t, IntegerFits i == the numbers of a term line and of an integer line
-- GeneraRise is   == genera rise
-- FirstSection heights s == class zero: degree 0, all entries 0, one term with 1 at exponent 0, and no integer
-- SectionFits d s == as many entries as heights, each a number, the degree by the heights, from 1 to D
-- SectionsFit d ss == the first section is that of class zero, and each further one fits
-- GvFits d        == what the grammar asks of the data; classes stand in their order
-- SpellsGv ls d   == the lines spell that report
-- IsGv ls         == the lines spell some report
use Rattle.std.specs.Prelude.{◌≡◌, ◌≢◌, ◌≤◌, ◌<◌, ℤ, pos, ◌≤ℤ◌, List, [], ◌∷◌, length, map, unsigned_abs, ⊤}
use Rattle.std.specs.List.{AllByRecursion}
use Rattle.tv_spec_plane.specs.Web.{degree_of}
use Rattle.tv_spec_boxes.specs.Assignments.{zeros}
use Rattle.tv_spec_boxes.specs.Classes.{ClassesRise}
use Rattle.tv_spec_text.specs.Lines.{Line, IsNumber, IsCount}
use Rattle.tv_spec_text.specs.Reports.{Term, Rises, IsPrintable}
use Rattle.tv_spec_reports.specs.IntegerLines.{GenusValue, GvSection, gv_lines}

pub record GvData : Type 0 where
  pub heights : List ℤ
  pub degree : ℤ
  pub upto : ℤ
  pub sections : List GvSection

pub record IsWideValue (z : ℤ) : Type 0 where
  pub other : z ≢ pos 0
  pub within : IsPrintable z

pub record GvTermFits (N : ℤ) (t : Term) : Type 0 where
  pub exponent : IsNumber t.exponent
  pub within : t.exponent ≤ℤ N
  pub coefficient : IsWideValue t.coefficient

pub record IntegerFits (i : GenusValue) : Type 0 where
  pub genus : IsCount i.genus
  pub value : IsWideValue i.value

abbrev pub GeneraRise : List GenusValue → Type 0
GeneraRise [] = ⊤
GeneraRise (i ∷ []) = ⊤
GeneraRise (i ∷ j ∷ is) = (i.genus < j.genus) × GeneraRise (j ∷ is)

pub record FirstSection (heights : List ℤ) (s : GvSection) : Type 0 where
  pub degree : s.section.degree ≡ pos 0
  pub entries : s.section.entries ≡ zeros (length heights)
  pub terms : s.section.terms ≡ record { exponent = pos 0; coefficient = pos 1 } ∷ []
  pub integers : s.integers ≡ []

pub record SectionFits (d : GvData) (s : GvSection) : Type 0 where
  pub entries : length s.section.entries ≡ length d.heights
  pub numbers : AllByRecursion IsNumber s.section.entries
  pub degree : s.section.degree ≡ degree_of d.heights s.section.entries
  pub positive : pos 1 ≤ℤ s.section.degree
  pub within : s.section.degree ≤ℤ d.degree
  pub terms : AllByRecursion (GvTermFits d.upto) s.section.terms
  pub rises : Rises s.section.terms
  pub integers : AllByRecursion IntegerFits s.integers
  pub genera : GeneraRise s.integers

abbrev pub SectionsFit : GvData → List GvSection → Type 0
SectionsFit d [] = ⊥
SectionsFit d (s ∷ ss) = FirstSection d.heights s × AllByRecursion (SectionFits d) ss

pub record GvFits (d : GvData) : Type 0 where
  pub some : 1 ≤ length d.heights
  pub few : length d.heights ≤ 64
  pub heights : AllByRecursion (λ h. unsigned_abs h ≤ 1000000) d.heights
  pub least_degree : pos 0 ≤ℤ d.degree
  pub greatest_degree : d.degree ≤ℤ pos 24
  pub least_order : pos 1 ≤ℤ d.upto
  pub greatest_order : d.upto ≤ℤ pos 64
  pub sections : SectionsFit d d.sections
  pub order : ClassesRise d.heights (map (λ s. s.section.entries) d.sections)

pub record SpellsGv (ls : List Line) (d : GvData) : Type 0 where
  pub fits : GvFits d
  pub same : ls ≡ gv_lines d.heights d.degree d.upto d.sections

abbrev pub IsGv : List Line → Type 0
IsGv ls = (d : GvData) × SpellsGv ls d
