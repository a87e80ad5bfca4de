-- Remainders of sums, and the lines of a summary.
--
-- IsRemainder n z  == n is the least remainder of z modulo 1000000007, from 0 on
-- summary_title    == the first line of a summary
-- number_line word z == the word and the number
-- summary_head s, summary_counts s == the lines of what was asked for, and of what was counted and summed
use Rattle.std.specs.Prelude.{◌≡◌, ◌<◌, ℕ, ℤ, pos, ◌+ℤ◌, ◌*ℤ◌, List, [], ◌∷◌, codes}
use Rattle.tv_spec_text.specs.Lines.{Word, Line, spelled}
use Rattle.tv_spec_text.specs.Checks.{count_line}
use Rattle.tv_spec_reports.specs.Summaries.{Summary}

pub record IsRemainder (n : ℕ) (z : ℤ) : Type 0 where
  pub least : n < 1000000007
  pub multiple : ℤ
  pub same : z ≡ pos n +ℤ (multiple *ℤ pos 1000000007)

abbrev pub summary_title : Line
summary_title = codes "report" ∷ codes "summary" ∷ []

abbrev pub number_line : Word → ℤ → Line
number_line word z = word ∷ spelled z ∷ []

abbrev pub summary_head : Summary → List Line
summary_head s = summary_title ∷ count_line (codes "grid") s.grid ∷ count_line (codes "degree") s.degree ∷ number_line (codes "upto") s.upto ∷ []

abbrev pub summary_counts : Summary → List Line
summary_counts s =
    count_line (codes "classes") s.classes ∷ count_line (codes "terms") s.terms
    ∷ number_line (codes "zero") s.zero ∷ count_line (codes "sum") s.sum ∷ []
