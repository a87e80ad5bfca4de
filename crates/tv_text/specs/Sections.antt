-- The lines of a series report around its sections.
--
-- kind_word k    == the word of a kind of series
-- kind_line w    == the first line: `report series` and the word of the kind
-- degree_line d  == the line of the greatest degree
-- upto_line n    == the line of the last exponent
-- head_lines w hs d n == the lines before the sections
use Rattle.std.specs.Prelude.{ℤ, List, [], ◌∷◌, codes}
use Rattle.tv_spec_text.specs.Lines.{Word, Line, spelled}
use Rattle.tv_spec_text.specs.Files.{heights_line}
use Rattle.tv_text.specs.declared.series.Kind.{Kind}
use Rattle.tv_text.specs.declared.series.Kind.TheVariants.{Full, Reduced}

abbrev pub kind_word : Kind → Word
kind_word Full = codes "full"
kind_word Reduced = codes "reduced"

abbrev pub kind_line : Word → Line
kind_line w = codes "report" ∷ codes "series" ∷ w ∷ []

abbrev pub degree_line : ℤ → Line
degree_line d = codes "degree" ∷ spelled d ∷ []

abbrev pub upto_line : ℤ → Line
upto_line n = codes "upto" ∷ spelled n ∷ []

abbrev pub head_lines : Word → List ℤ → ℤ → ℤ → List Line
head_lines w hs d n = kind_line w ∷ heights_line hs ∷ degree_line d ∷ upto_line n ∷ []
