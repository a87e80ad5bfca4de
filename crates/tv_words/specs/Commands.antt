-- The word lists of the commands.
--
-- IsBetween low high z == a number from low to high
-- IsDegree d     == a number from 0 to MAX_DEGREE
-- IsOrder z      == a number from MIN_ORDER to MAX_ORDER
-- IsIntegersOrder z == a number from MIN_INTEGERS_ORDER to MAX_ORDER
-- IsSide k       == a number from MIN_SIDE to MAX_SIDE
-- name_word n    == the first word of a command
-- series_words k d n == the word `series`, the kind, a degree and an order
-- generate_words k == the word `generate` and the side of a grid
-- gv_words d n   == the word `gv`, a degree and an order
-- boxes_words chi v == the word `boxes`, an Euler characteristic and the entries of a class
-- summary_words k d n == the word `summary`, the side of a grid, a degree and an order
-- IsSeries ws k d n  == the words of the series of a kind, in degrees through d, with exponents through n
-- IsGenerate ws k == the words of the grid of that side
-- IsSummaryOf ws k d n == the words of the summary of a grid in degrees through d, with exponents through n
-- IsGv ws d n    == the words of the integers in degrees through d, with exponents through n
-- IsBoxes ws chi v == the words of the box configurations of that Euler characteristic and of the class with those entries, each of
--                   at most nine digits; an Euler characteristic is an exponent of the series, within the same bounds
-- Asks ws c      == the words ask for the command
-- Subject        == what a command is about: the file that is read, the grid of a side, or the report that is read
-- subject_of c   == what the command is about
-- IsAsked c      == some words ask for the command
-- IsCommand ws   == the words of some command
-- IsWordsError ws e == e is the first place at which the words leave every word list, or want of memory
use Rattle.std.specs.Prelude.{◌≡◌, ℕ, ℤ, pos, ◌≤ℤ◌, List, [], ◌∷◌, map, codes, ⊤}
use Rattle.std.specs.List.{AllByRecursion}
use Rattle.tv_spec_text.specs.Lines.{Word, spelled, IsNumber}
use Rattle.tv_spec_text.specs.Places.{IsPlace}
use Rattle.tv_text.specs.declared.series.Kind.{Kind}
use Rattle.tv_text.specs.Sections.{kind_word}
use Rattle.tv_words.specs.declared.command.TheConstants.{MIN_SIDE, MAX_SIDE, MAX_DEGREE, MIN_ORDER, MIN_INTEGERS_ORDER, MAX_ORDER}
use Rattle.tv_words.specs.declared.command.Command.{Command}
use Rattle.tv_words.specs.declared.command.Command.TheVariants.{Check, Series, Gv, Boxes, Generate, Summary, Verify}
use Rattle.tv_words.specs.declared.command.Name.{Name}
use Rattle.tv_words.specs.declared.command.Name.TheVariants.{Check as CheckName, Series as SeriesName, Gv as GvName, Boxes as BoxesName, Generate as GenerateName, Summary as SummaryName, Verify as VerifyName}
use Rattle.tv_words.specs.declared.command.WordsError.{WordsError}
use Rattle.tv_words.specs.declared.command.WordsError.TheVariants.{At, Memory}

abbrev pub IsBetween : ℤ → ℤ → ℤ → Type 0
IsBetween low high z = (low ≤ℤ z) × (z ≤ℤ high)

abbrev pub IsDegree : ℕ → Type 0
IsDegree d = IsBetween (pos 0) MAX_DEGREE (pos d)

abbrev pub IsOrder : ℤ → Type 0
IsOrder z = IsBetween MIN_ORDER MAX_ORDER z

abbrev pub IsIntegersOrder : ℤ → Type 0
IsIntegersOrder z = IsBetween MIN_INTEGERS_ORDER MAX_ORDER z

abbrev pub IsSide : ℕ → Type 0
IsSide k = IsBetween MIN_SIDE MAX_SIDE (pos k)

abbrev pub name_word : Name → Word
name_word CheckName = codes "check"
name_word SeriesName = codes "series"
name_word GvName = codes "gv"
name_word BoxesName = codes "boxes"
name_word GenerateName = codes "generate"
name_word SummaryName = codes "summary"
name_word VerifyName = codes "verify"

abbrev pub series_words : Kind → ℕ → ℤ → List Word
series_words kind degree upto = name_word SeriesName ∷ kind_word kind ∷ spelled (pos degree) ∷ spelled upto ∷ []

abbrev pub gv_words : ℕ → ℤ → List Word
gv_words degree upto = name_word GvName ∷ spelled (pos degree) ∷ spelled upto ∷ []

abbrev pub boxes_words : ℤ → List ℤ → List Word
boxes_words chi entries = name_word BoxesName ∷ spelled chi ∷ map spelled entries

abbrev pub generate_words : ℕ → List Word
generate_words side = name_word GenerateName ∷ spelled (pos side) ∷ []

abbrev pub summary_words : ℕ → ℕ → ℤ → List Word
summary_words side degree upto = name_word SummaryName ∷ spelled (pos side) ∷ spelled (pos degree) ∷ spelled upto ∷ []

pub record IsSeries (ws : List Word) (kind : Kind) (degree : ℕ) (upto : ℤ) : Type 0 where
  pub through : IsDegree degree
  pub order : IsOrder upto
  pub same : ws ≡ series_words kind degree upto

pub record IsGv (ws : List Word) (degree : ℕ) (upto : ℤ) : Type 0 where
  pub through : IsDegree degree
  pub order : IsIntegersOrder upto
  pub same : ws ≡ gv_words degree upto

pub record IsBoxes (ws : List Word) (chi : ℤ) (entries : List ℤ) : Type 0 where
  pub order : IsOrder chi
  pub small : AllByRecursion IsNumber entries
  pub same : ws ≡ boxes_words chi entries

pub record IsGenerate (ws : List Word) (side : ℕ) : Type 0 where
  pub within : IsSide side
  pub same : ws ≡ generate_words side

pub record IsSummaryOf (ws : List Word) (side degree : ℕ) (upto : ℤ) : Type 0 where
  pub within : IsSide side
  pub through : IsDegree degree
  pub order : IsOrder upto
  pub same : ws ≡ summary_words side degree upto

abbrev pub Asks : List Word → Command → Type 0
Asks ws Check = ws ≡ name_word CheckName ∷ []
Asks ws (Series kind degree upto) = IsSeries ws kind degree upto
Asks ws (Gv degree upto) = IsGv ws degree upto
Asks ws (Boxes chi entries) = IsBoxes ws chi entries
Asks ws (Generate side) = IsGenerate ws side
Asks ws (Summary side degree upto) = IsSummaryOf ws side degree upto
Asks ws Verify = ws ≡ name_word VerifyName ∷ []

pub data Subject : Type 0 where
  OfFile : Subject
  OfGrid : ℕ → Subject
  OfReport : Subject

abbrev pub subject_of : Command → Subject
subject_of Check = OfFile
subject_of (Series kind degree upto) = OfFile
subject_of (Gv degree upto) = OfFile
subject_of (Boxes chi entries) = OfFile
subject_of (Generate side) = OfGrid side
subject_of (Summary side degree upto) = OfGrid side
subject_of Verify = OfReport

abbrev pub IsAsked : Command → Type 0
IsAsked c = (ws : List Word) × Asks ws c

abbrev pub IsCommand : List Word → Type 0
IsCommand ws = (c : Command) × Asks ws c

abbrev pub IsWordsError : List Word → WordsError → Type 0
IsWordsError ws (At k) = IsPlace IsCommand ws k
IsWordsError ws Memory = ⊤
