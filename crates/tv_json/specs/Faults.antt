-- Why bytes are no file in JSON.
--
-- IsFormFault bytes e == e says that the bytes are no file in JSON, or is want of memory
-- IsJson bytes w      == as many bytes as a file may have, or fewer, are the file w in JSON, which is within the limits
-- IsJsonFault bytes e == e is why the bytes are refused: their number, else their form, else the first limit that the file
--                        passes; or e is want of memory
use Rattle.std.specs.Prelude.{ℕ, ◌<◌, ◌≤◌, List, length, ⊤}
use Rattle.tv_lattice.specs.declared.fault.InputError.{InputError}
use Rattle.tv_lattice.specs.declared.fault.InputError.TheVariants.{Fault, Memory}
use Rattle.tv_lattice.specs.declared.fault.FileFault.TheVariants.{TooLong, Json, TooMany}
use Rattle.tv_spec_plane.specs.declared.limits.TheConstants.{MOST_BYTES}
use Rattle.tv_lattice.specs.Limits.{IsWithinLimits}
use Rattle.tv_lattice.specs.Excesses.{IsExcess}
use Rattle.tv_spec_plane.specs.Web.{Web}
use Rattle.tv_spec_json.specs.Files.{IsFileJson, IsRefusedJson}

abbrev pub IsFormFault : List ℕ → InputError → Type 0
IsFormFault bytes (Fault Json) = (w : Web) → IsFileJson bytes w → ⊥
IsFormFault bytes (Fault _) = ⊥
IsFormFault bytes Memory = ⊤

abbrev pub IsJson : List ℕ → Web → Type 0
IsJson bytes w = (length bytes ≤ MOST_BYTES) × IsFileJson bytes w × IsWithinLimits w

abbrev pub IsJsonFault : List ℕ → InputError → Type 0
IsJsonFault bytes (Fault TooLong) = MOST_BYTES < length bytes
IsJsonFault bytes (Fault Json) = IsRefusedJson bytes
IsJsonFault bytes (Fault (TooMany e)) = (length bytes ≤ MOST_BYTES) × ((w : Web) × IsFileJson bytes w × IsExcess w e)
IsJsonFault bytes (Fault _) = ⊥
IsJsonFault bytes Memory = ⊤
