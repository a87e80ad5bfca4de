-- A directed edge is no side of two triangles, where no edge stands twice.
use Rattle.std.proofs.Common.{ℕ, ◌<◌, List, [], ◌∷◌, length, subst}
use Rattle.std.specs.List.{AllByRecursion}
use Rattle.tv_spec_plane.specs.declared.records.Triple.{Triple}
use Rattle.tv_spec_plane.specs.Plane.{Point, Segment}
use Rattle.tv_spec_plane.specs.Tiling.{triangle_at}
use Rattle.tv_laws_tiling.specs.Members.{Among}
use Rattle.tv_laws_tiling.specs.Edges.{sides}
use Rattle.tv_lattice.specs.Limits.{HasCoordinates}
use Rattle.tv_triangulation.specs.Turned.{turned}
use Rattle.tv_laws_tiling.proofs.Lists.{flat_map-once_apart}
use Rattle.tv_laws_tiling.proofs.Exchanges.{exchanged_triangles_tile}
use Rattle.tv_laws_tiling_converse.proofs.Neighbours.{edges-once}
use Rattle.tv_triangulation.specs.Triangulated.{IsTiled}
use Rattle.tv_triangulation.proofs.Turning.{turned-all}
use Rattle.tv_triangulation.proofs.Tilings.{no_triple}
use Rattle.tv_triangulation.proofs.Untwisted.{exchange_at, length-turned}

pub no_shared_side : (ps : List Point) (ts : List Triple) → AllByRecursion HasCoordinates ps → IsTiled ps ts → (s : Segment) (i j : ℕ) → i < j → j < length ts → Among s (sides (triangle_at (turned ps ts) i)) → Among s (sides (triangle_at (turned ps ts) j)) → ⊥
no_shared_side ps ts coordinates t s i j l m p q =
    let whole = (exchanged_triangles_tile ps ts (turned ps ts) (length-turned ps ts) (exchange_at ps ts)).0 t.tiles in
    let once = edges-once ps (turned ps ts) coordinates t.distinct (turned-all ps ts t.listed t.unit) whole in
    flat_map-once_apart sides no_triple s (turned ps ts) once i j l (subst (λ n. j < n) (length-turned ps ts) m) p q
