-- Which bytes the program takes as a file, and the web that they give.
--
-- ReadsAs json bytes w == as a file in JSON, or as a text, the bytes spell w, which is within the limits
-- IsFile bytes w      == they do by their first byte
-- turned_web file     == the web with the file's points and heights, and its triangles turned counter-clockwise
-- IsSound file w      == the points are distinct and not all on one line, the triangles are unimodular and tile the hull,
--                        there are as many heights as points, w is the file with its triangles turned, and every compact
--                        edge of w has a degree of at least 1
-- IsAccepted bytes w  == the bytes spell a file within the limits, which is sound with the web w
-- IsUnsoundBy w f     == f is the first of these checks that fails: the triangles tile, and there are k heights, not one for each
--                        point; or there are as many, and the first compact edge of the turned web whose degree is at most 0 is
--                        that from a to b, of degree d; or points and triangles fail a check
-- IsUnsound w e       == e is the first of these checks that fails, or want of memory
-- IsLowEdge w e       == e names the first compact edge of the web whose degree is at most 0, or is want of memory
use Rattle.std.specs.Prelude.{◌≡◌, ◌≢◌, ℕ, List, length, Bool, true, false, ⊤}
use Rattle.tv_spec_plane.specs.Web.{Web}
use Rattle.tv_spec_json.specs.Files.{is_json}
use Rattle.tv_text.specs.Faults.{IsText}
use Rattle.tv_json.specs.Faults.{IsJson}
use Rattle.tv_lattice.specs.declared.fault.FileFault.{FileFault}
use Rattle.tv_lattice.specs.declared.fault.FileFault.TheVariants.{HeightCount, Degree}
use Rattle.tv_lattice.specs.declared.fault.InputError.{InputError}
use Rattle.tv_lattice.specs.declared.fault.InputError.TheVariants.{Fault, Memory}
use Rattle.tv_triangulation.specs.Turned.{turned}
use Rattle.tv_triangulation.specs.Faults.{IsFirstFault}
use Rattle.tv_triangulation.specs.Triangulated.{IsTiled}
use Rattle.tv_degrees.specs.Grades.{IsFirstLow}
use Rattle.tv_spec_plane.specs.Graded.{IsGraded}

abbrev pub ReadsAs : Bool → List ℕ → Web → Type 0
ReadsAs true bytes w = IsJson bytes w
ReadsAs false bytes w = IsText bytes w

abbrev pub IsFile : List ℕ → Web → Type 0
IsFile bytes w = ReadsAs (is_json bytes) bytes w

abbrev pub turned_web : Web → Web
turned_web file = record file { triangles = turned file.points file.triangles }

pub record IsSound (file w : Web) : Type 0 where
  pub tiled : IsTiled file.points file.triangles
  pub heights : length file.heights ≡ length file.points
  pub turned : w ≡ turned_web file
  pub graded : IsGraded w

pub record IsAccepted (bytes : List ℕ) (w : Web) : Type 0 where
  pub file : Web
  pub read : IsFile bytes file
  pub sound : IsSound file w

-- degrees are looked at last
abbrev pub IsUnsoundBy : Web → FileFault → Type 0
IsUnsoundBy w (HeightCount k) = IsTiled w.points w.triangles × (k ≡ length w.heights) × (k ≢ length w.points)
IsUnsoundBy w (Degree a b d) =
    IsTiled w.points w.triangles × (length w.heights ≡ length w.points) × ((number : ℕ) × IsFirstLow (turned_web w) number a b d)
IsUnsoundBy w f = IsFirstFault w.points w.triangles f

abbrev pub IsUnsound : Web → InputError → Type 0
IsUnsound w (Fault f) = IsUnsoundBy w f
IsUnsound w Memory = ⊤

abbrev pub IsLowEdge : Web → InputError → Type 0
IsLowEdge w (Fault (Degree a b d)) = (number : ℕ) × IsFirstLow w number a b d
IsLowEdge w (Fault f) = ⊥
IsLowEdge w Memory = ⊤
