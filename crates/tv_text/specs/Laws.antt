-- What makes the answer of the reader exact.
--
-- HasOneReading    == lines spell at most one web
-- HasOnePlace      == there is at most one first line with which no file goes on
-- HasOneFault      == bytes are refused for one reason at most
-- RefusesNoText    == bytes that are a file within the limits are not refused
use Rattle.std.specs.Prelude.{◌≡◌, ℕ, List}
use Rattle.tv_lattice.specs.declared.fault.FileFault.{FileFault}
use Rattle.tv_lattice.specs.declared.fault.InputError.TheVariants.{Fault}
use Rattle.tv_spec_plane.specs.Web.{Web}
use Rattle.tv_spec_text.specs.Places.{IsPlace}
use Rattle.tv_spec_text.specs.Lines.{Line}
use Rattle.tv_spec_text.specs.Files.{Spells, IsFile}
use Rattle.tv_text.specs.Faults.{IsText, IsTextFault}

abbrev pub HasOneReading : Type 0
HasOneReading = (ls : List Line) (w v : Web) → Spells ls w → Spells ls v → w ≡ v

abbrev pub HasOnePlace : Type 0
HasOnePlace = (ls : List Line) (j k : ℕ) → IsPlace IsFile ls j → IsPlace IsFile ls k → j ≡ k

abbrev pub HasOneFault : Type 0
HasOneFault = (bytes : List ℕ) (f g : FileFault) → IsTextFault bytes (Fault f) → IsTextFault bytes (Fault g) → f ≡ g

abbrev pub RefusesNoText : Type 0
RefusesNoText = (bytes : List ℕ) (w : Web) (f : FileFault) → IsText bytes w → IsTextFault bytes (Fault f) → ⊥
