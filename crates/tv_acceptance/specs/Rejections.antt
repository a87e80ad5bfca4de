-- Why a file is refused.
--
-- RefusedAs json bytes e == as a file in JSON, or as a text, the bytes are refused by e
-- IsFileFault bytes e == they are by their first byte
-- FaultOf bytes f     == f is the first check that the bytes fail: too long, the form and its limits, the web
-- IsRefused bytes e   == e is the first check that fails, or want of memory
use Rattle.std.specs.Prelude.{ℕ, ◌<◌, List, length, Bool, true, false, ⊤}
use Rattle.tv_spec_plane.specs.Web.{Web}
use Rattle.tv_lattice.specs.declared.fault.FileFault.{FileFault}
use Rattle.tv_lattice.specs.declared.fault.FileFault.TheVariants.{TooLong, Json, Line, TooMany}
use Rattle.tv_lattice.specs.declared.fault.InputError.{InputError}
use Rattle.tv_lattice.specs.declared.fault.InputError.TheVariants.{Fault as Refusal, Memory}
use Rattle.tv_spec_json.specs.Files.{is_json}
use Rattle.tv_text.specs.Faults.{IsTextFault}
use Rattle.tv_json.specs.Faults.{IsJsonFault}
use Rattle.tv_acceptance.specs.Acceptance.{IsFile, IsUnsoundBy}
use Rattle.tv_spec_plane.specs.declared.limits.TheConstants.{MOST_BYTES}

abbrev pub RefusedAs : Bool → List ℕ → InputError → Type 0
RefusedAs true bytes e = IsJsonFault bytes e
RefusedAs false bytes e = IsTextFault bytes e

abbrev pub IsFileFault : List ℕ → InputError → Type 0
IsFileFault bytes e = RefusedAs (is_json bytes) bytes e

abbrev pub FaultOf : List ℕ → FileFault → Type 0
FaultOf bytes TooLong = MOST_BYTES < length bytes
FaultOf bytes (Line n) = IsFileFault bytes (Refusal (Line n))
FaultOf bytes Json = IsFileFault bytes (Refusal Json)
FaultOf bytes (TooMany e) = IsFileFault bytes (Refusal (TooMany e))
FaultOf bytes f = (w : Web) × IsFile bytes w × IsUnsoundBy w f

abbrev pub IsRefused : List ℕ → InputError → Type 0
IsRefused bytes (Refusal f) = FaultOf bytes f
IsRefused bytes Memory = ⊤
