-- What a command over a web is to tell.
--
-- SaysText r status text      == the answer has the status and the text; a failure is want of memory
-- Says r status line          == the answer has the status and the line; a failure is want of memory
-- IsPrinted k f text          == the text is the report of the family f, of which each coefficient is small
-- Prints k f r                == the answer is Done with that text; a failure is want of memory
-- IsPrintedWith f k text       == the text is that of the sections of the family f with the integers k, which are its own, and
--                               each of their numbers is small
-- PrintsIntegers f k r        == the answer is Done with that text; a failure is want of memory
-- IsSummed k d n f text        == the text is the summary of the sections of the family f, as one of grid k, and its counts are small
-- Summarizes k d n f r        == the answer is Done with that text; a failure is want of memory
-- CarriesOut c w status text  == the status and the text are deserved by the command over this web
-- IsCarriedOut c w r          == the answer is so; a failure is want of memory
-- in_text r                   == an answer as an outcome whose text is whole; a failure stays
-- IsReady l                   == the class of the listing suits its web, and its Euler characteristic may be asked for
use Rattle.std.specs.Prelude.{◌≡◌, ◌⊎◌, ℤ, List, ◌++◌, ℕ, Result, Ok, Err, MatchResult}
use Rattle.std.specs.List.{AllByRecursion}
use Rattle.tv_ring.specs.Whole.{wholes, IsAny}
use Rattle.tv_spec_plane.specs.Web.{Web}
use Rattle.tv_spec_text.specs.Lines.{Line, line_text}
use Rattle.tv_spec_text.specs.Reports.{series_text, IsSmall}
use Rattle.tv_spec_series.specs.Families.{Family, IsFamily}
use Rattle.tv_text.specs.declared.series.Kind.{Kind}
use Rattle.tv_text.specs.Sections.{kind_word}
use Rattle.tv_integers.specs.Kept.{Kept}
use Rattle.tv_gv.specs.Extracted.{HasIntegers}
use Rattle.tv_reports.specs.Sections.{sections_of}
use Rattle.tv_reports.specs.IntegerSections.{gv_sections}
use Rattle.tv_spec_reports.specs.IntegerLines.{HasSmallNumbers, gv_text}
use Rattle.tv_spec_reports.specs.Summaries.{Summary, IsSummary, HasSmallCounts, summary_text}
use Rattle.tv_words.specs.Commands.{IsOrder}
use Rattle.tv_answers.specs.Boxes.{Suits}
use Rattle.tv_answers.specs.Reports.{IsReport, IsWide, IsDiffers, IsUnsuited, IsBegun}
use Rattle.tv_answers.specs.Texts.{words_text, memory_text}
use Rattle.tv_words.specs.declared.command.Command.{Command}
use Rattle.tv_answers.specs.declared.status.Status.{Status}
use Rattle.tv_answers.specs.declared.status.Status.TheVariants.{Done, Words, Wide, Differs, Memory as WantOfMemory}
use Rattle.tv_answers.specs.declared.answer.Answer.{Answer}
use Rattle.tv_answers.specs.declared.answer.Failure.{Failure}
use Rattle.tv_answers.specs.declared.answer.Listing.{Listing}
use Rattle.tv_answers.specs.declared.answer.Outcome.{Outcome}
use Rattle.tv_answers.specs.declared.answer.Outcome.TheVariants.{Text}
use Rattle.tv_answers.specs.declared.answer.Failure.TheVariants.{Memory}

abbrev pub SaysText : Result Answer Failure → Status → List ℕ → Type 0
SaysText r status text = MatchResult r (λ a. (a.status ≡ status) × (a.text.items ≡ text)) (λ e. e ≡ Memory)

abbrev pub Says : Result Answer Failure → Status → Line → Type 0
Says r status line = SaysText r status (line_text line)

pub record IsPrinted (kind : Kind) (f : Family ℤ) (text : List ℕ) : Type 0 where
  pub family : IsFamily IsAny wholes f
  pub small : AllByRecursion IsSmall (sections_of f)
  pub same : text ≡ series_text (kind_word kind) f.heights f.top f.upto (sections_of f)

abbrev pub Prints : Kind → Family ℤ → Result Answer Failure → Type 0
Prints kind f r = MatchResult r (λ a. (a.status ≡ Done) × IsPrinted kind f a.text.items) (λ e. e ≡ Memory)

pub record IsPrintedWith (f : Family ℤ) (k : Kept) (text : List ℕ) : Type 0 where
  pub family : IsFamily IsAny wholes f
  pub integers : HasIntegers f k
  pub small : AllByRecursion HasSmallNumbers (gv_sections f k.integers)
  pub same : text ≡ gv_text f.heights f.top f.upto (gv_sections f k.integers)

abbrev pub PrintsIntegers : Family ℤ → Kept → Result Answer Failure → Type 0
PrintsIntegers f k r = MatchResult r (λ a. (a.status ≡ Done) × IsPrintedWith f k a.text.items) (λ e. e ≡ Memory)

pub record IsSummed (side degree : ℕ) (upto : ℤ) (f : Family ℤ) (text : List ℕ) : Type 0 where
  pub family : IsFamily IsAny wholes f
  pub summary : Summary
  pub sums : IsSummary side degree upto (sections_of f) summary
  pub small : HasSmallCounts summary
  pub printed : text ≡ summary_text summary

abbrev pub Summarizes : ℕ → ℕ → ℤ → Family ℤ → Result Answer Failure → Type 0
Summarizes side degree upto f r = MatchResult r (λ a. (a.status ≡ Done) × IsSummed side degree upto f a.text.items) (λ e. e ≡ Memory)

abbrev pub CarriesOut : Command → Web → Status → List ℕ → Type 0
CarriesOut c w Done text = IsReport c w text
CarriesOut c w Wide text = (line : Line) × IsWide c w line × (text ≡ line_text line)
CarriesOut c w Differs text = (line : Line) × IsDiffers c w line × (text ≡ line_text line)
CarriesOut c w Words text = (k : ℕ) × IsUnsuited c w k × (text ≡ words_text k)
CarriesOut c w WantOfMemory text = (text ≡ memory_text) ⊎ ((pieces : List ℕ) × IsBegun c w pieces × (text ≡ pieces ++ memory_text))
CarriesOut c w _ text = ⊥

abbrev pub IsCarriedOut : Command → Web → Result Answer Failure → Type 0
IsCarriedOut c w r = MatchResult r (λ a. CarriesOut c w a.status a.text.items) (λ e. e ≡ Memory)

abbrev pub in_text : Result Answer Failure → Result Outcome Failure
in_text (Ok a) = Ok (Text a)
in_text (Err e) = Err e

abbrev pub IsReady : Listing → Type 0
IsReady l = Suits l.web l.class × IsOrder l.chi
