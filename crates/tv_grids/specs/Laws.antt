-- What is true of grids and of printed files, as laws.
--
-- HasUnitDegrees w == the points are distinct and not all on one line, the triangles are unimodular, counter-clockwise and tile
--                     the hull, there is a height for each point, and each compact edge has the degree 1
-- IsGridNumber k   == a number from 1 to the greatest that a grid may have
-- GridsAreAccepted == each grid is within the limits of files, tiles, and has the degree 1 at each compact edge
-- GridsHaveTexts   == the text of each grid spells that grid
-- ReadsBackAs w ls == the lines spell w, and nothing else
-- FilesReadBack    == the text of each file whose numbers have spellings reads back as that file
use Rattle.std.specs.Prelude.{◌≡◌, ℕ, ◌≤◌, List, pos, length}
use Rattle.std.specs.List.{AllByRecursion}
use Rattle.tv_lattice.specs.Limits.{IsWithinLimits}
use Rattle.tv_spec_plane.specs.Web.{Web, compact, edge_degree}
use Rattle.tv_spec_reports.specs.Grids.{grid, grid_text}
use Rattle.tv_spec_text.specs.Lines.{Line, text_of, word_lines}
use Rattle.tv_spec_text.specs.Files.{file_lines, Fits, Spells}
use Rattle.tv_text.specs.Faults.{IsText}
use Rattle.tv_triangulation.specs.Triangulated.{IsTiled}
use Rattle.tv_triangulation.specs.Turned.{turned}
use Rattle.tv_grids.specs.declared.grid.TheConstants.{MOST_SQUARES}

pub record HasUnitDegrees (w : Web) : Type 0 where
  pub tiled : IsTiled w.points w.triangles
  pub turned : turned w.points w.triangles ≡ w.triangles
  pub heights : length w.heights ≡ length w.points
  pub degrees : AllByRecursion (λ e. edge_degree w e ≡ pos 1) (compact w)

abbrev pub IsGridNumber : ℕ → Type 0
IsGridNumber k = (1 ≤ k) × (k ≤ MOST_SQUARES)

abbrev pub GridsAreAccepted : Type 0
GridsAreAccepted = (k : ℕ) → IsGridNumber k → IsWithinLimits (grid k) × HasUnitDegrees (grid k)

abbrev pub GridsHaveTexts : Type 0
GridsHaveTexts = (k : ℕ) → IsGridNumber k → IsText (grid_text k) (grid k)

pub record ReadsBackAs (w : Web) (ls : List Line) : Type 0 where
  pub spells : Spells ls w
  pub only : (v : Web) → Spells ls v → v ≡ w

abbrev pub FilesReadBack : Type 0
FilesReadBack = (w : Web) → Fits w → ReadsBackAs w (word_lines (text_of (file_lines w)))
