-- What is to be told of a series by residues before it is told.
--
-- AreAlike f g                == the families have the same heights, degree, last exponent and classes
-- IsPrintedByResidues k f g text == the text is the report by residues of the families f and g of remainders modulo the two primes
-- PrintsByResidues k f g r    == the answer is Done with that text; a failure is want of memory
-- TellsByResidues k w d n r   == the answer is Done with the report by residues of the series of that kind; a failure is want of
--                               memory
use Rattle.std.specs.Prelude.{◌≡◌, ℕ, ℤ, List, Result, MatchResult}
use Rattle.tv_ring.specs.Residue.{residues, IsRemainder}
use Rattle.tv_spec_plane.specs.Web.{Web}
use Rattle.tv_spec_series.specs.Families.{Family, classes, IsFamily}
use Rattle.tv_spec_reports.specs.Residues.{first_modulus, second_modulus, residues_text}
use Rattle.tv_text.specs.declared.series.Kind.{Kind}
use Rattle.tv_text.specs.Sections.{kind_word}
use Rattle.tv_reports.specs.Residues.{residue_sections}
use Rattle.tv_answers.specs.SeriesReport.{IsSeriesByResidues}
use Rattle.tv_answers.specs.declared.answer.Answer.{Answer}
use Rattle.tv_answers.specs.declared.answer.Failure.{Failure}
use Rattle.tv_answers.specs.declared.answer.Failure.TheVariants.{Memory}
use Rattle.tv_answers.specs.declared.status.Status.TheVariants.{Done}

pub record AreAlike (f g : Family ℕ) : Type 0 where
  pub heights : f.heights ≡ g.heights
  pub top : f.top ≡ g.top
  pub upto : f.upto ≡ g.upto
  pub classes : classes f.rows ≡ classes g.rows

pub record IsPrintedByResidues (kind : Kind) (f g : Family ℕ) (text : List ℕ) : Type 0 where
  pub first : IsFamily (IsRemainder first_modulus) (residues first_modulus) f
  pub second : IsFamily (IsRemainder second_modulus) (residues second_modulus) g
  pub same : text ≡ residues_text (kind_word kind) f.heights f.top f.upto (residue_sections f g)

abbrev pub PrintsByResidues : Kind → Family ℕ → Family ℕ → Result Answer Failure → Type 0
PrintsByResidues kind f g r = MatchResult r (λ a. (a.status ≡ Done) × IsPrintedByResidues kind f g a.text.items) (λ e. e ≡ Memory)

abbrev pub TellsByResidues : Kind → Web → ℕ → ℤ → Result Answer Failure → Type 0
TellsByResidues kind w d n r = MatchResult r (λ a. (a.status ≡ Done) × IsSeriesByResidues kind w d n a.text.items) (λ e. e ≡ Memory)
