-- The sections of a family of series with integers: one for each class, with its terms and its integers.
--
-- gv_section hs is row == the section of the row, and the integers of its class
-- gv_sections f is    == the sections of the rows, in their order
-- value_line g        == the line of an integer of a class
-- IsSmallValue g      == the integer is printable, and its genus below 2^64
-- IsSmallEntry s gs   == each coefficient of the series is printable, and each of these integers is small
-- entry_lines d v s gs == the lines of a class v of degree d with the terms of its series and with integers
-- gv_head hs d n      == the lines before the sections
-- TextTells           == the text with these sections, where their numbers are small, is the report of a family of series of whole
--                        numbers and of the integers
use Rattle.std.specs.List.{AllByRecursion}
use Rattle.std.specs.Prelude.{◌≡◌, ℕ, ℤ, pos, List, [], ◌∷◌, ◌++◌, map, codes}
use Rattle.tv_ring.specs.Whole.{wholes, IsAny}
use Rattle.tv_laws_series.specs.Terms.{Terms}
use Rattle.tv_spec_series.specs.Families.{Row, Family, IsFamily}
use Rattle.tv_spec_katz.specs.Katz.{Integer}
use Rattle.tv_spec_text.specs.Files.{heights_line}
use Rattle.tv_spec_text.specs.Lines.{Line}
use Rattle.tv_spec_text.specs.Reports.{IsSmallTerm, section_lines}
use Rattle.tv_spec_reports.specs.IntegerLines.{GvSection, IsSmallInteger, HasSmallNumbers, integer_line, gv_text}
use Rattle.tv_spec_reports.specs.IntegersReport.{integers_of, TellsIntegers}
use Rattle.tv_integers.specs.declared.genus_value.GenusValue.{GenusValue}
use Rattle.tv_text.specs.Sections.{degree_line, upto_line}
use Rattle.tv_reports.specs.Sections.{terms_of, section_of}

abbrev pub gv_section : List ℤ → List Integer → Row ℤ → GvSection
gv_section hs is row = record { section = section_of hs row; integers = integers_of row.class is }

abbrev pub gv_sections : Family ℤ → List Integer → List GvSection
gv_sections f is = map (gv_section f.heights is) f.rows

abbrev pub value_line : GenusValue → Line
value_line g = integer_line (record { genus = g.genus; value = g.value })

abbrev pub IsSmallValue : GenusValue → Type 0
IsSmallValue g = IsSmallInteger (record { genus = g.genus; value = g.value })

abbrev pub IsSmallEntry : Terms ℤ → List GenusValue → Type 0
IsSmallEntry s gs = AllByRecursion IsSmallTerm (terms_of s) × AllByRecursion IsSmallValue gs

abbrev pub entry_lines : ℤ → List ℤ → Terms ℤ → List GenusValue → List Line
entry_lines d v s gs = section_lines (record { degree = d; entries = v; terms = terms_of s }) ++ map value_line gs

abbrev pub gv_head : List ℤ → ℤ → ℤ → List Line
gv_head hs d n = (codes "report" ∷ codes "gv" ∷ []) ∷ heights_line hs ∷ degree_line d ∷ upto_line n ∷ []

abbrev pub TextTells : Type 0
TextTells = (D : ℕ) (f : Family ℤ) (is : List Integer) → IsFamily IsAny wholes f → f.top ≡ pos D
    → AllByRecursion HasSmallNumbers (gv_sections f is)
    → TellsIntegers D f is (gv_text f.heights f.top f.upto (gv_sections f is))
