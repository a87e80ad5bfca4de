-- What one line of a report says.
--
-- title_line      == the first line
-- class_words z v == the line of a class by its degree and its entries
-- TermFits t      == the exponent has at most nine digits, and the coefficient is a wide value
-- IsRow r l       == the line l spells the row r
-- IsNoRow l       == the line l spells no row
use Rattle.std.specs.Prelude.{◌≡◌, ◌≢◌, ℤ, List, [], ◌∷◌, map, codes}
use Rattle.std.specs.List.{AllByRecursion}
use Rattle.tv_spec_text.specs.Lines.{Line, IsNumber, spelled}
use Rattle.tv_spec_text.specs.Files.{end_line}
use Rattle.tv_spec_text.specs.Reports.{Term as SeenTerm, term_line}
use Rattle.tv_spec_reports.specs.IntegerLines.{GenusValue, integer_line}
use Rattle.tv_spec_reports.specs.Grammar.{IsWideValue, IntegerFits}
use Rattle.tv_report_reader.specs.declared.row.Row.{Row}
use Rattle.tv_report_reader.specs.declared.row.Row.TheVariants.{Class, Term, Integer, End}

abbrev pub title_line : Line
title_line = codes "report" ∷ codes "gv" ∷ []

abbrev pub class_words : ℤ → List ℤ → Line
class_words z v = codes "class" ∷ spelled z ∷ map spelled v

abbrev pub TermFits : SeenTerm → Type 0
TermFits t = IsNumber t.exponent × IsWideValue t.coefficient

abbrev pub IsRow : Row → Line → Type 0
IsRow (Class z v) l = IsNumber z × AllByRecursion IsNumber v.items × (l ≡ class_words z v.items)
IsRow (Term t) l = TermFits t × (l ≡ term_line t)
IsRow (Integer i) l = IntegerFits i × (l ≡ integer_line i)
IsRow End l = l ≡ end_line

pub record IsNoRow (l : Line) : Type 0 where
  pub class : (z : ℤ) (v : List ℤ) → IsNumber z → AllByRecursion IsNumber v → l ≢ class_words z v
  pub term : (t : SeenTerm) → TermFits t → l ≢ term_line t
  pub integer : (i : GenusValue) → IntegerFits i → l ≢ integer_line i
  pub last : l ≢ end_line
