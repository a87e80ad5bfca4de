-- What is told of a checked report, and the lines of reports that are refused.
--
-- verdict_lines, verdict_text == the report that says yes
-- long_report_line, report_line n == the refusals of a report: too long, and the first line outside its grammar
use Rattle.std.specs.Prelude.{ℕ, pos, List, [], ◌∷◌, codes}
use Rattle.tv_spec_text.specs.Lines.{Line, text_of, spelled}

abbrev pub verdict_lines : List Line
verdict_lines = (codes "report" ∷ codes "verify" ∷ []) ∷ (codes "verdict" ∷ codes "yes" ∷ []) ∷ (codes "end" ∷ []) ∷ []

abbrev pub verdict_text : List ℕ
verdict_text = text_of verdict_lines

abbrev pub long_report_line : Line
long_report_line = codes "refused" ∷ codes "report" ∷ codes "1" ∷ []

abbrev pub report_line : ℕ → Line
report_line n = codes "refused" ∷ codes "report" ∷ codes "2" ∷ spelled (pos n) ∷ []
