-- A file while it is read.
--
-- web_of d       == what the lines so far say
-- Reads d l e    == after the lines that led to d, the line l leads to e
-- Refuses d l    == no file goes on with l after the lines that led to d
use Rattle.std.specs.Prelude.{List, [], ◌∷◌, ◌++◌}
use Rattle.tv_spec_plane.specs.Web.{Web}
use Rattle.tv_spec_text.specs.Lines.{Line}
use Rattle.tv_spec_text.specs.Files.{IsFile}
use Rattle.tv_text.specs.declared.draft.Draft.{Draft}
use Rattle.tv_text.specs.Stages.{IsAt}

abbrev pub web_of : Draft → Web
web_of d = record { points = d.points.items; triangles = d.triangles.items; heights = d.heights.items }

abbrev pub Reads : Draft → Line → Draft → Type 0
Reads d l e = (ls : List Line) → IsAt d.stage (web_of d) ls → IsAt e.stage (web_of e) (ls ++ l ∷ [])

abbrev pub Refuses : Draft → Line → Type 0
Refuses d l = (ls : List Line) → IsAt d.stage (web_of d) ls → (more : List Line) → IsFile (ls ++ l ∷ more) → ⊥
