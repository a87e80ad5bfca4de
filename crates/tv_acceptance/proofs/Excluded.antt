-- No bytes are accepted and refused, nor accepted as two webs.
use Rattle.std.proofs.Common.{◌≡◌, ℕ, List, length, ap, sym, ◌∙◌, arith, subst}
use Rattle.tv_spec_plane.specs.Web.{Web}
use Rattle.tv_spec_json.specs.Files.{is_json}
use Rattle.tv_lattice.specs.declared.fault.FileFault.{FileFault}
use Rattle.tv_lattice.specs.declared.fault.FileFault.TheVariants.{TooLong, Line, Json, TooMany, Repeated, Index, Flat, Area, Twice, Unmatched, Bare, HeightCount, Degree}
use Rattle.tv_lattice.specs.Limits.{IsWithinLimits}
use Rattle.tv_triangulation.specs.Triangulated.{IsTiled}
use Rattle.tv_triangulation.proofs.Accepted.{tiling_triangles_pass}
use Rattle.tv_spec_plane.specs.Graded.{IsGraded}
use Rattle.tv_acceptance.specs.Acceptance.{turned_web, IsFile, IsAccepted, IsUnsoundBy}
use Rattle.tv_acceptance.specs.Rejections.{FaultOf}
use Rattle.tv_acceptance.proofs.Reading.{one_file, within_limits, few_bytes, read_or_refused}
use Rattle.tv_acceptance.proofs.Sound.{graded_or_low}

-- a file that is accepted fails no check
pub sound_or_unsound : (w : Web) (f : FileFault) → IsWithinLimits w → IsTiled w.points w.triangles → length w.heights ≡ length w.points → IsGraded (turned_web w) → IsUnsoundBy w f → ⊥
sound_or_unsound w (HeightCount k) l t h g x = x.2 (x.1 ∙ h)
sound_or_unsound w (Degree a b d) l t h g x = graded_or_low (turned_web w) x.2.0 a b d g x.2.1
sound_or_unsound w TooLong l t h g x = tiling_triangles_pass w.points w.triangles TooLong l.coordinates t x
sound_or_unsound w (Line n) l t h g x = tiling_triangles_pass w.points w.triangles (Line n) l.coordinates t x
sound_or_unsound w Json l t h g x = tiling_triangles_pass w.points w.triangles Json l.coordinates t x
sound_or_unsound w (TooMany e) l t h g x = tiling_triangles_pass w.points w.triangles (TooMany e) l.coordinates t x
sound_or_unsound w (Repeated i j) l t h g x = tiling_triangles_pass w.points w.triangles (Repeated i j) l.coordinates t x
sound_or_unsound w (Index k) l t h g x = tiling_triangles_pass w.points w.triangles (Index k) l.coordinates t x
sound_or_unsound w Flat l t h g x = tiling_triangles_pass w.points w.triangles Flat l.coordinates t x
sound_or_unsound w (Area k d) l t h g x = tiling_triangles_pass w.points w.triangles (Area k d) l.coordinates t x
sound_or_unsound w (Twice i j) l t h g x = tiling_triangles_pass w.points w.triangles (Twice i j) l.coordinates t x
sound_or_unsound w (Unmatched a b) l t h g x = tiling_triangles_pass w.points w.triangles (Unmatched a b) l.coordinates t x
sound_or_unsound w (Bare a b) l t h g x = tiling_triangles_pass w.points w.triangles (Bare a b) l.coordinates t x

web_or_fault : (bytes : List ℕ) (w : Web) (f : FileFault) → IsAccepted bytes w → (v : Web) × IsFile bytes v × IsUnsoundBy v f → ⊥
web_or_fault bytes w f a x = let same : x.0 ≡ a.file = one_file (is_json bytes) bytes x.0 a.file x.1 a.read in
    sound_or_unsound a.file f (within_limits (is_json bytes) bytes a.file a.read) a.sound.tiled a.sound.heights (subst IsGraded a.sound.turned a.sound.graded) (subst (λ v. IsUnsoundBy v f) same x.2)

-- what is taken isn't refused
pub accepted_or_fault : (bytes : List ℕ) (w : Web) (f : FileFault) → IsAccepted bytes w → FaultOf bytes f → ⊥
accepted_or_fault bytes w TooLong a x = let few = few_bytes (is_json bytes) bytes a.file a.read in absurd (omega arith)
accepted_or_fault bytes w (Line n) a x = read_or_refused (is_json bytes) bytes a.file (Line n) a.read x
accepted_or_fault bytes w Json a x = read_or_refused (is_json bytes) bytes a.file Json a.read x
accepted_or_fault bytes w (TooMany e) a x = read_or_refused (is_json bytes) bytes a.file (TooMany e) a.read x
accepted_or_fault bytes w (Repeated i j) a x = web_or_fault bytes w (Repeated i j) a x
accepted_or_fault bytes w (Index k) a x = web_or_fault bytes w (Index k) a x
accepted_or_fault bytes w Flat a x = web_or_fault bytes w Flat a x
accepted_or_fault bytes w (Area k d) a x = web_or_fault bytes w (Area k d) a x
accepted_or_fault bytes w (Twice i j) a x = web_or_fault bytes w (Twice i j) a x
accepted_or_fault bytes w (Unmatched i j) a x = web_or_fault bytes w (Unmatched i j) a x
accepted_or_fault bytes w (Bare i j) a x = web_or_fault bytes w (Bare i j) a x
accepted_or_fault bytes w (HeightCount k) a x = web_or_fault bytes w (HeightCount k) a x
accepted_or_fault bytes w (Degree i j d) a x = web_or_fault bytes w (Degree i j d) a x

-- bytes are accepted as one web
pub same_web : (bytes : List ℕ) (v w : Web) → IsAccepted bytes v → IsAccepted bytes w → v ≡ w
same_web bytes v w a b = a.sound.turned ∙ (ap turned_web (one_file (is_json bytes) bytes a.file b.file a.read b.read) ∙ sym b.sound.turned)
