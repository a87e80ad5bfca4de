-- What makes the answer of the reader exact.
--
-- HasOneFile    == bytes are at most one file in JSON
-- HasOneFault   == bytes are refused for one reason at most
-- RefusesNoFile == bytes that are a file in JSON within the limits are not refused
use Rattle.std.specs.Prelude.{◌≡◌, ℕ, List}
use Rattle.tv_lattice.specs.declared.fault.FileFault.{FileFault}
use Rattle.tv_lattice.specs.declared.fault.InputError.TheVariants.{Fault}
use Rattle.tv_spec_plane.specs.Web.{Web}
use Rattle.tv_spec_json.specs.Files.{IsFileJson}
use Rattle.tv_json.specs.Faults.{IsJson, IsJsonFault}

abbrev pub HasOneFile : Type 0
HasOneFile = (bytes : List ℕ) (w v : Web) → IsFileJson bytes w → IsFileJson bytes v → w ≡ v

abbrev pub HasOneFault : Type 0
HasOneFault = (bytes : List ℕ) (f g : FileFault) → IsJsonFault bytes (Fault f) → IsJsonFault bytes (Fault g) → f ≡ g

abbrev pub RefusesNoFile : Type 0
RefusesNoFile = (bytes : List ℕ) (w : Web) (f : FileFault) → IsJson bytes w → IsJsonFault bytes (Fault f) → ⊥
