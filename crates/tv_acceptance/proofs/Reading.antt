-- What a reading of bytes is: one file at most, within the limits, and no refusal beside it.
use Rattle.std.proofs.Common.{◌≡◌, ℕ, ◌≤◌, List, length, Bool, true, false}
use Rattle.tv_spec_plane.specs.Web.{Web}
use Rattle.tv_spec_text.specs.Lines.{word_lines}
use Rattle.tv_spec_text.proofs.Readings.{Spells-unique}
use Rattle.tv_lattice.specs.Limits.{IsWithinLimits}
use Rattle.tv_lattice.specs.declared.fault.FileFault.{FileFault}
use Rattle.tv_lattice.specs.declared.fault.InputError.TheVariants.{Fault}
use Rattle.tv_spec_plane.specs.declared.limits.TheConstants.{MOST_BYTES}
use Rattle.tv_text.proofs.Exact.{IsText-accepted}
use Rattle.tv_json.proofs.Exact.{IsFileJson-unique, IsJson-accepted}
use Rattle.tv_acceptance.specs.Acceptance.{ReadsAs}
use Rattle.tv_acceptance.specs.Rejections.{RefusedAs}

pub one_file : (json : Bool) (bytes : List ℕ) (v w : Web) → ReadsAs json bytes v → ReadsAs json bytes w → v ≡ w
one_file true bytes v w p q = IsFileJson-unique bytes v w p.1 q.1
one_file false bytes v w p q = Spells-unique (word_lines bytes) v w p.1 q.1

pub within_limits : (json : Bool) (bytes : List ℕ) (w : Web) → ReadsAs json bytes w → IsWithinLimits w
within_limits true bytes w h = h.2
within_limits false bytes w h = h.2

pub few_bytes : (json : Bool) (bytes : List ℕ) (w : Web) → ReadsAs json bytes w → length bytes ≤ MOST_BYTES
few_bytes true bytes w h = h.0
few_bytes false bytes w h = h.0

pub read_or_refused : (json : Bool) (bytes : List ℕ) (w : Web) (f : FileFault) → ReadsAs json bytes w → RefusedAs json bytes (Fault f) → ⊥
read_or_refused true bytes w f p q = IsJson-accepted bytes w f p q
read_or_refused false bytes w f p q = IsText-accepted bytes w f p q
