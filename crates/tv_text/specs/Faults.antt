-- Why a text is no file.
--
-- IsLineFault ls e   == e names the first line with which no file goes on, or is want of memory
-- IsText bytes w     == as many bytes as a file may have, or fewer, spell w, which is within the limits
-- IsTextFault bytes e == e is why the bytes are refused: their number, else the first such line, else the first limit
--                       that the file passes; or e is want of memory
use Rattle.std.specs.Prelude.{◌≡◌, ℕ, suc, ◌<◌, ◌≤◌, List, length, ⊤}
use Rattle.tv_lattice.specs.declared.fault.InputError.{InputError}
use Rattle.tv_lattice.specs.declared.fault.InputError.TheVariants.{Fault, Memory}
use Rattle.tv_lattice.specs.declared.fault.FileFault.TheVariants.{TooLong, Line, TooMany}
use Rattle.tv_spec_plane.specs.declared.limits.TheConstants.{MOST_BYTES}
use Rattle.tv_lattice.specs.Limits.{IsWithinLimits}
use Rattle.tv_lattice.specs.Excesses.{IsExcess}
use Rattle.tv_spec_plane.specs.Web.{Web}
use Rattle.tv_spec_text.specs.Places.{IsPlace}
use Rattle.tv_spec_text.specs.Lines.{Line as Words, word_lines}
use Rattle.tv_spec_text.specs.Files.{Spells, IsFile}

-- lines are numbered from 1
abbrev pub IsLineFault : List Words → InputError → Type 0
IsLineFault ls (Fault (Line n)) = (k : ℕ) × (n ≡ suc k) × IsPlace IsFile ls k
IsLineFault ls (Fault _) = ⊥
IsLineFault ls Memory = ⊤

abbrev pub IsText : List ℕ → Web → Type 0
IsText bytes w = (length bytes ≤ MOST_BYTES) × Spells (word_lines bytes) w × IsWithinLimits w

abbrev pub IsTextFault : List ℕ → InputError → Type 0
IsTextFault bytes (Fault TooLong) = MOST_BYTES < length bytes
IsTextFault bytes (Fault (Line n)) = (length bytes ≤ MOST_BYTES) × ((k : ℕ) × (n ≡ suc k) × IsPlace IsFile (word_lines bytes) k)
IsTextFault bytes (Fault (TooMany e)) = (length bytes ≤ MOST_BYTES) × ((w : Web) × Spells (word_lines bytes) w × IsExcess w e)
IsTextFault bytes (Fault _) = ⊥
IsTextFault bytes Memory = ⊤
