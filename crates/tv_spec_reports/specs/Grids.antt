-- The grid of a number, as a file: a square cut into unit squares, each of them into two triangles.
--
-- over_square n f  == f x y for x and y below n, by y, then x
-- place k x y      == the number of the point (x, y)
-- grid_point x y   == that point
-- grid_points k    == the points (x, y) with x and y from 0 to k
-- lower k x y, upper k x y == the triangles of the unit square at (x, y), below and above its rising diagonal
-- squares k        == these two for each unit square, by y, then x
-- grid_height x y  == x x + y y - x y
-- grid k           == the web of these points, triangles and heights
-- grid_text k      == its text
use Rattle.std.specs.Prelude.{ℕ, suc, ◌+◌, ◌*◌, ℤ, pos, ◌-ℤ◌, List, [], ◌∷◌, map}
use Rattle.std.specs.List.{flat_map}
use Rattle.tv_spec_plane.specs.declared.records.Triple.{Triple}
use Rattle.tv_spec_plane.specs.Plane.{Point}
use Rattle.tv_spec_plane.specs.Web.{Web, below}
use Rattle.tv_spec_text.specs.Lines.{text_of}
use Rattle.tv_spec_text.specs.Files.{file_lines}

abbrev pub over_square : {A : Type 0} → ℕ → (ℕ → ℕ → A) → List A
over_square n f = flat_map (λ y. map (λ x. f x y) (below n)) (below n)

abbrev pub place : ℕ → ℕ → ℕ → ℕ
place k x y = y * suc k + x

abbrev pub grid_point : ℕ → ℕ → Point
grid_point x y = record { x = pos x; y = pos y }

abbrev pub grid_points : ℕ → List Point
grid_points k = over_square (suc k) grid_point

abbrev pub lower : ℕ → ℕ → ℕ → Triple
lower k x y = record { a = place k x y; b = place k (suc x) y; c = place k (suc x) (suc y) }

abbrev pub upper : ℕ → ℕ → ℕ → Triple
upper k x y = record { a = place k x y; b = place k (suc x) (suc y); c = place k x (suc y) }

abbrev pub squares : ℕ → List Triple
squares k = flat_map (λ ts. ts) (over_square k (λ x y. lower k x y ∷ upper k x y ∷ []))

abbrev pub grid_height : ℕ → ℕ → ℤ
grid_height x y = pos (x * x + y * y) -ℤ pos (x * y)

abbrev pub grid : ℕ → Web
grid k = record { points = grid_points k; triangles = squares k; heights = over_square (suc k) grid_height }

abbrev pub grid_text : ℕ → List ℕ
grid_text k = text_of (file_lines (grid k))
