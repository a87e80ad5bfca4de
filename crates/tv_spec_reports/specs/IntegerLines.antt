-- The report of the integers: the reduced series of each class, and behind them its integers.
--
-- GenusValue     == a genus and its integer
-- GvSection      == a class with the terms of its series, and its integers
-- IsSmallInteger i == its value is printable, and its genus below 2^64
-- HasSmallNumbers s == each coefficient of the section is printable, and each integer behind it is small
-- integer_line i == the line `integer GENUS VALUE`
-- gv_section_lines s == a line for the class, a line for each term, a line for each integer
-- gv_lines heights degree upto ss == the lines of the report whose first line is `report gv`
-- gv_text        == the text of those lines
use Rattle.std.specs.Prelude.{ℕ, ◌^◌, ◌<◌, ℤ, pos, List, [], ◌∷◌, ◌++◌, map, codes}
use Rattle.std.specs.List.{flat_map, AllByRecursion}
use Rattle.tv_spec_text.specs.Lines.{Line, text_of, spelled}
use Rattle.tv_spec_text.specs.Reports.{Section, IsPrintable, IsSmall, section_lines}

pub record GenusValue : Type 0 where
  pub genus : ℕ
  pub value : ℤ

pub record GvSection : Type 0 where
  pub section : Section
  pub integers : List GenusValue

pub record IsSmallInteger (i : GenusValue) : Type 0 where
  pub value : IsPrintable i.value
  pub genus : i.genus < 2 ^ 64

pub record HasSmallNumbers (s : GvSection) : Type 0 where
  pub terms : IsSmall s.section
  pub integers : AllByRecursion IsSmallInteger s.integers

abbrev pub integer_line : GenusValue → Line
integer_line i = codes "integer" ∷ spelled (pos i.genus) ∷ spelled i.value ∷ []

abbrev pub gv_section_lines : GvSection → List Line
gv_section_lines s = section_lines s.section ++ map integer_line s.integers

abbrev pub gv_lines : List ℤ → ℤ → ℤ → List GvSection → List Line
gv_lines heights degree upto ss =
    (codes "report" ∷ codes "gv" ∷ [])
    ∷ (codes "heights" ∷ map spelled heights)
    ∷ (codes "degree" ∷ spelled degree ∷ [])
    ∷ (codes "upto" ∷ spelled upto ∷ [])
    ∷ (flat_map gv_section_lines ss ++ ((codes "end" ∷ []) ∷ []))

abbrev pub gv_text : List ℤ → ℤ → ℤ → List GvSection → List ℕ
gv_text heights degree upto ss = text_of (gv_lines heights degree upto ss)
