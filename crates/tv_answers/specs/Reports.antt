-- What each command answers to the web that it is about: one row for each command. `verify` is about no web.
--
-- IsCrowdLine w d n line  == the line names a class that has too many configurations
-- IsSpreadLine w d n line == the line names a class and an exponent at which the numbers that meet in its division are too
--                            large
-- IsMajorantLine w d n line == the line names a class and an exponent at which the majorant is too large
-- IsIntegersWide w d n line == a bound of the work on the reduced series or on their integers passes 2^127 - 1, and the line
--                            names where
-- IsDifferenceLine w d n line == the line names the first place at which Katz's product over the integers of the reduced series
--                            and these series differ, with both values
-- IsReport c w text == the text is the command's report of the web; that of a grid is told by its side alone, and `IsOver` says
--                     that the web is that grid
-- IsWide c w line   == a bound of the command's work passes 2^127 - 1, and the line names some place where it does; `series` goes
--                     on by residues there
-- IsDiffers c w line == what the command compares differs, and the line names the first place where it does
-- IsUnsuited c w k  == what the command asks of the web doesn't suit it, and k is the place of its words that shows it
-- IsBegun c w text  == the command tells its report piece by piece, and the text is that of the first whole pieces
use Rattle.std.specs.Prelude.{◌≡◌, ◌⊎◌, ℕ, ℤ, List}
use Rattle.tv_spec_plane.specs.Web.{Web}
use Rattle.tv_spec_text.specs.Lines.{Line}
use Rattle.tv_spec_text.specs.Checks.{check_text}
use Rattle.tv_spec_reports.specs.Grids.{grid_text}
use Rattle.tv_spec_reports.specs.SummaryReport.{IsSummaryReport}
use Rattle.tv_text.specs.Refusals.{crowd_line, spread_line, majorant_line, differs_line}
use Rattle.tv_spec_reports.specs.IntegersReport.{IsIntegersReport}
use Rattle.tv_answers.specs.SeriesReport.{IsSeriesAnswer, IsCrowded, IsSpreadOut}
use Rattle.tv_answers.specs.Integers.{IsMajorantBeyond, IsFirstDifference}
use Rattle.tv_answers.specs.Boxes.{IsUnsuitedAt, IsBoxesReport, IsBeginning}
use Rattle.tv_words.specs.declared.command.Command.{Command}
use Rattle.tv_words.specs.declared.command.Command.TheVariants.{Check, Series, Gv, Boxes, Generate, Summary, Verify}

abbrev pub IsCrowdLine : Web → ℕ → ℤ → Line → Type 0
IsCrowdLine w degree upto line = (v : List ℤ) × IsCrowded w degree upto v × (line ≡ crowd_line v)

abbrev pub IsSpreadLine : Web → ℕ → ℤ → Line → Type 0
IsSpreadLine w d upto line = (v : List ℤ) × ((m : ℤ) × IsSpreadOut w d upto v m × (line ≡ spread_line m v))

abbrev pub IsMajorantLine : Web → ℕ → ℤ → Line → Type 0
IsMajorantLine w d upto line = (v : List ℤ) × ((m : ℤ) × IsMajorantBeyond w d upto v m × (line ≡ majorant_line m v))

abbrev pub IsIntegersWide : Web → ℕ → ℤ → Line → Type 0
IsIntegersWide w d upto line = IsCrowdLine w d upto line ⊎ (IsSpreadLine w d upto line ⊎ IsMajorantLine w d upto line)

pub record IsDifferenceLine (w : Web) (d : ℕ) (upto : ℤ) (line : Line) : Type 0 where
  pub class : List ℤ
  pub exponent : ℤ
  pub series : ℤ
  pub product : ℤ
  pub first : IsFirstDifference w d upto class exponent series product
  pub same : line ≡ differs_line exponent series product class

abbrev pub IsReport : Command → Web → List ℕ → Type 0
IsReport Check w text = text ≡ check_text w
IsReport (Series kind degree upto) w text = IsSeriesAnswer kind w degree upto text
IsReport (Gv degree upto) w text = IsIntegersReport w degree upto text
IsReport (Boxes chi entries) w text = IsBoxesReport w entries chi text
IsReport (Generate side) w text = text ≡ grid_text side
IsReport (Summary side degree upto) w text = IsSummaryReport side degree upto text
IsReport Verify w text = ⊥

abbrev pub IsWide : Command → Web → Line → Type 0
IsWide Check w line = ⊥
IsWide (Series kind degree upto) w line = ⊥
IsWide (Gv degree upto) w line = IsIntegersWide w degree upto line
IsWide (Boxes chi entries) w line = ⊥
IsWide (Generate side) w line = ⊥
IsWide (Summary side degree upto) w line = IsCrowdLine w degree upto line
IsWide Verify w line = ⊥

abbrev pub IsDiffers : Command → Web → Line → Type 0
IsDiffers (Gv degree upto) w line = IsDifferenceLine w degree upto line
IsDiffers _ w line = ⊥

abbrev pub IsUnsuited : Command → Web → ℕ → Type 0
IsUnsuited (Boxes chi entries) w place = IsUnsuitedAt w entries place
IsUnsuited _ w place = ⊥

abbrev pub IsBegun : Command → Web → List ℕ → Type 0
IsBegun (Boxes chi entries) w text = IsBeginning w entries chi text
IsBegun _ w text = ⊥
