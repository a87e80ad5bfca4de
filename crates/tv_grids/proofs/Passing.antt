-- Grids pass the checks: each of the seven by computing it.
--
-- rise k, fall k  == the boundary of grid k from its first point to the last, along the bottom and the right side, and back
-- place_of k p    == the number of the point p of grid k
-- passes k        == the tests of the triangles, the boundary and the degrees of grid k
-- is_short k      == the text of grid k has as many bytes as a file may have, or fewer
use Rattle.std.specs.Prelude.{◌≡◌, ℕ, zero, suc, ◌-◌, ◌<◌, ◌≤◌, pos, List, [], ◌∷◌, ◌++◌, length, map, Bool, true, ◌&&◌, nat_eq, nat_lt, unsigned_abs}
use Rattle.std.specs.Fmt.{digits}
use Rattle.std.specs.List.{list_all, AllByRecursion}
use Rattle.std.specs.Ordering.{int_eq}
use Rattle.std.proofs.Common.{refl, sym, ap, ◌∙◌, arith}
use Rattle.std.proofs.lemmas.Int.{ints}
use Rattle.std.proofs.lemmas.Bool.Decides.{Decides-int_eq}
use Rattle.tv_spec_plane.specs.declared.records.Triple.{Triple}
use Rattle.tv_spec_plane.specs.Plane.{Point, Segment, at, turn}
use Rattle.tv_spec_plane.specs.Tiling.{Tiles}
use Rattle.tv_spec_plane.specs.Web.{below, compact, edge_ratio, edge_degree}
use Rattle.tv_spec_reports.specs.Grids.{place, grid_points, lower, squares, grid_height, grid_point, grid, grid_text}
use Rattle.tv_spec_text.specs.Lines.{line_text}
use Rattle.tv_hull.specs.declared.order.Heading.TheVariants.{Up, Down}
use Rattle.tv_hull.proofs.Rounds.{hull-runs}
use Rattle.tv_laws_tiling.specs.Edges.{edges, AreTurned}
use Rattle.tv_laws_tiling.specs.Points.{AreDistinct, SpansPlane}
use Rattle.tv_laws_tiled_edges.proofs.Turned.{turned-tiled}
use Rattle.tv_triangulation.specs.Turned.{turned, turned_of}
use Rattle.tv_triangulation.proofs.Tilings.{triangulated-tiles}
use Rattle.tv_grids.specs.Laws.{HasUnitDegrees, GridsAreAccepted}
use Rattle.tv_grids.proofs.Within.{grid-within, length-over}
use Rattle.tv_grids.proofs.Tested.{all-below, all-listed, is_turned, turned-tested, are_once, are_matched, matched-tested, is_run, run-tested}
use Rattle.tv_lemmas.proofs.Naturals.{nat_lt-tells, nat_eq-tells}
use Rattle.std.proofs.lemmas.Bool.{and_parts}

abbrev rise : ℕ → List Segment
rise k = map (λ x. (place k x 0, place k (suc x) 0)) (below k) ++ map (λ y. (place k k y, place k k (suc y))) (below k)

abbrev fall : ℕ → List Segment
fall k = map (λ x. (place k (k - x) k, place k (k - suc x) k)) (below k) ++ map (λ y. (place k 0 (k - y), place k 0 (k - suc y))) (below k)

abbrev place_of : ℕ → Point → ℕ
place_of k p = place k (unsigned_abs p.x) (unsigned_abs p.y)

abbrev tiling : ℕ → Bool
tiling k = list_all (is_turned (grid_points k)) (squares k) && (are_once (edges (squares k)) && are_matched (rise k ++ fall k) (edges (squares k)))

abbrev boundary : ℕ → Bool
boundary k = is_run (grid_points k) Up 0 (rise k) (place k k k) && is_run (grid_points k) Down (place k k k) (fall k) 0

abbrev spread : ℕ → Bool
spread k = is_turned (grid_points k) (lower k 0 0) && list_all (λ i. nat_eq (place_of k (at (grid_points k) i)) i) (below (length (grid_points k)))

abbrev degrees : ℕ → Bool
degrees k = list_all (λ e. int_eq (edge_degree (grid k) e) (pos 1)) (compact (grid k))

abbrev passes : ℕ → Bool
passes k = (tiling k && boundary k) && (spread k && degrees k)

all_pass : list_all (λ j. passes (suc j)) (below 7) ≡ true
unfolding turn compact edge_ratio
all_pass = refl

abbrev is_short : ℕ → Bool
is_short k = nat_lt (length (grid_text k)) 65537

all_short : list_all (λ j. is_short (suc j)) (below 7) ≡ true
unfolding line_text digits
all_short = refl

pub text-short : (j : ℕ) → j < 7 → length (grid_text (suc j)) ≤ 65536
text-short j h = omega (arith, nat_lt-tells (length (grid_text (suc j))) 65537 (all-below (λ j. is_short (suc j)) 7 all_short j h))

distinct-by : (ps : List Point) (g : Point → ℕ) → ((i : ℕ) → i < length ps → g (at ps i) ≡ i) → AreDistinct ps
distinct-by ps g placed i j h l e = sym (placed i h) ∙ ap g e ∙ placed j l

turned-same : (ps : List Point) (ts : List Triple) → AreTurned ps ts → turned ps ts ≡ ts
turned-same ps [] all = refl
turned-same ps (t ∷ ts) all =
    let first : turned_of ps t ≡ t = rw all.0.turned refl in
    ap (λ u. u ∷ turned ps ts) first ∙ ap (λ us. t ∷ us) (turned-same ps ts all.1)

degree-one : (k : ℕ) → degrees k ≡ true → AllByRecursion (λ e. edge_degree (grid k) e ≡ pos 1) (compact (grid k))
degree-one k e = all-listed (λ e. int_eq (edge_degree (grid k) e) (pos 1)) (λ e. edge_degree (grid k) e ≡ pos 1) (λ e. (Decides-int_eq (edge_degree (grid k) e) (pos 1)).0) (compact (grid k)) e

spans : (ps : List Point) (t : Triple) → is_turned ps t ≡ true → SpansPlane ps
spans ps t e flat =
    let turned = turned-tested ps t e in
    let level = flat t.a t.b t.c turned.listed.a turned.listed.b turned.listed.c in
    omega (arith, ints, turned.turned, level)

tiles : (k : ℕ) → k ≤ 7 → tiling k ≡ true → boundary k ≡ true → AreDistinct (grid_points k) → SpansPlane (grid_points k) → AreTurned (grid_points k) (squares k) → Tiles (grid_points k) (squares k)
tiles k h tested bound distinct spread are_turned =
    let runs = and_parts (is_run (grid_points k) Up 0 (rise k) (place k k k)) _ bound in
    let small = (grid-within k h).coordinates in
    let up = run-tested (grid_points k) Up 0 (rise k) (place k k k) runs.0 in
    let down = run-tested (grid_points k) Down (place k k k) (fall k) 0 runs.1 in
    let rest = and_parts (are_once (edges (squares k))) _ (and_parts (list_all (is_turned (grid_points k)) (squares k)) _ tested).1 in
    triangulated-tiles (record { points = grid_points k; triangles = squares k }) small (record {
      hull = rise k ++ fall k;
      distinct = distinct;
      spread = spread;
      is_hull = hull-runs (grid_points k) small distinct 0 (place k k k) 0 (rise k) (fall k) (record { listed = down.listed; least = down.last }) up down;
      turned = are_turned;
      matched = matched-tested (rise k ++ fall k) (squares k) rest.0 rest.1;
    })

unit-degrees : (k : ℕ) → k ≤ 7 → passes k ≡ true → HasUnitDegrees (grid k)
unit-degrees k h e =
    let parts = and_parts (tiling k && boundary k) (spread k && degrees k) e in
    let plane = and_parts (tiling k) (boundary k) parts.0 in
    let rest = and_parts (spread k) (degrees k) parts.1 in
    let apart = and_parts (is_turned (grid_points k) (lower k 0 0)) _ rest.0 in
    let distinct = distinct-by (grid_points k) (place_of k) (λ i l. nat_eq-tells _ i (all-below (λ i. nat_eq (place_of k (at (grid_points k) i)) i) (length (grid_points k)) apart.1 i l)) in
    let spans_plane = spans (grid_points k) (lower k 0 0) apart.0 in
    let are_turned = all-listed (is_turned (grid_points k)) _ (turned-tested (grid_points k)) (squares k) (and_parts (list_all (is_turned (grid_points k)) (squares k)) _ plane.0).0 in
    record {
      tiled = turned-tiled (grid_points k) (squares k) distinct spans_plane are_turned (tiles k h plane.0 plane.1 distinct spans_plane are_turned);
      turned = turned-same (grid_points k) (squares k) are_turned;
      heights = length-over (suc k) grid_height ∙ sym (length-over (suc k) grid_point);
      degrees = degree-one k rest.1;
    }

pub grids_accepted : GridsAreAccepted
grids_accepted zero h = absurd (omega arith)
grids_accepted (suc j) h = (grid-within (suc j) h.1, unit-degrees (suc j) h.1 (all-below (λ j. passes (suc j)) 7 all_pass j (omega arith)))
