-- No assignment of few cells starts far below exponent 0.
use Rattle.std.proofs.Common.{ℕ, ◌*◌, ◌≤◌, arith}
use Rattle.std.specs.Prelude.{Contains, ℤ, pos, negsuc, neg_ℤ, ◌≤ℤ◌, List, [], ◌∷◌, map, length}
use Rattle.std.specs.List.{AllByRecursion}
use Rattle.std.proofs.lemmas.Int.{ints, clamps}
use Rattle.std.proofs.lemmas.List.{length-map}
use Rattle.tv_spec_plane.specs.declared.records.CompactEdge.{CompactEdge}
use Rattle.tv_spec_plane.specs.declared.records.EdgeRef.{EdgeRef}
use Rattle.tv_spec_plane.specs.declared.records.EdgeRef.TheVariants.{Compact, Outer}
use Rattle.tv_spec_plane.specs.declared.records.OuterEdge.{OuterEdge}
use Rattle.tv_spec_plane.specs.declared.records.Corner.{Corner}
use Rattle.tv_spec_plane.specs.Web.{Web, compact, outer, corners, corner_of, normal_a, normal_b}
use Rattle.tv_partition.specs.Rows.{IsSmall}
use Rattle.tv_cells.specs.Costs.{overlap_cost}
use Rattle.tv_lattice.specs.Limits.{HasCoordinates}
use Rattle.tv_laws_edges.specs.Rule.{HasRule, HasEdgeRule}
use Rattle.tv_spec_plane.specs.Graded.{IsGraded}
use Rattle.tv_degrees.proofs.Bounds.{normal_a-small, normal_b-small}
use Rattle.tv_spec_boxes.specs.Assignments.{Rows, Assignment, sum_on, no_legs, rows_at, legs_of, overlaps_of, assignments}
use Rattle.tv_spec_boxes.specs.Numbers.{fall_by, low_of, least, lowest}
use Rattle.tv_laws_counts.specs.Ways.{IsListed, IsAtMost}
use Rattle.tv_lemmas.proofs.Members.{all-both, all-onto, all-members, all-everywhere}
use Rattle.tv_laws_counts.proofs.Degrees.{assignments_listed}
use Rattle.tv_assignment.specs.Size.{cells_of}
use Rattle.tv_assignment.proofs.Bounded.{edge_cost-small, overlap_cost-small, extent-small}
use Rattle.tv_assignment.proofs.Listed.{listed-few}

falls-bound : (w : Web) (es : List CompactEdge) (a : Assignment) → AllByRecursion HasCoordinates w.points → AllByRecursion (HasRule w) es → AllByRecursion IsSmall a → neg_ℤ (pos (cells_of a * 48001)) ≤ℤ sum_on (fall_by w) es a
falls-bound w [] a coordinates rules small = omega (arith, ints)
falls-bound w (e ∷ es) [] coordinates rules small = omega (arith, ints)
falls-bound w (e ∷ es) (d ∷ a) coordinates rules small =
    let here = edge_cost-small d (normal_a w e) (normal_b w e) small.0 (normal_a-small w e coordinates rules.0) (normal_b-small w e coordinates rules.0) in
    let rest = falls-bound w es a coordinates rules.1 small.1 in
    omega (arith, ints, clamps)

empty_small : IsSmall []
empty_small = (tt, omega arith)

no_legs-small : (es : List OuterEdge) → AllByRecursion IsSmall (map (λ (e : OuterEdge). []) es)
no_legs-small [] = tt
no_legs-small (e ∷ es) = (empty_small, no_legs-small es)

rows-small : (w : Web) (a : Assignment) (e : EdgeRef) → AllByRecursion IsSmall a → IsSmall (rows_at a (no_legs w) e)
rows-small w a (Compact k) small = all-everywhere IsSmall a [] empty_small small k
rows-small w a (Outer k) small = all-everywhere IsSmall (no_legs w) [] empty_small (no_legs-small (outer w)) k

overlaps-bound : (w : Web) (a : Assignment) (cs : List Corner) → AllByRecursion IsSmall a → overlaps_of (map (legs_of a (no_legs w)) cs) ≤ length cs * 54144
overlaps-bound w a [] small = omega arith
overlaps-bound w a (c ∷ cs) small =
    let legs = legs_of a (no_legs w) c in
    let here : overlap_cost legs ≤ 54144 = overlap_cost-small legs (extent-small legs (rows-small w a c.along_x small) (rows-small w a c.along_y small) (rows-small w a c.along_z small)) in
    let rest = overlaps-bound w a cs small in
    omega arith

least-bound : (f : Assignment → ℤ) (xs : List Assignment) → AllByRecursion (λ x. negsuc 9999999 ≤ℤ f x) xs → negsuc 9999999 ≤ℤ least f xs
unfolding least
least-bound f [] all = omega (arith, ints)
least-bound f (x ∷ xs) all = let here = all.0 in let rest = least-bound f xs all.1 in omega (arith, ints, clamps)

at_most-small : (d : ℕ) (rows : Rows) → d ≤ 24 → IsAtMost d rows → IsSmall rows
at_most-small d rows h is = let few = is.1 in (is.0, omega arith)

low-bound : (w : Web) (d : ℕ) (a : Assignment) → AllByRecursion HasCoordinates w.points → HasEdgeRule w → length w.triangles ≤ 128 → d ≤ 24 → IsListed w d a → cells_of a ≤ d → negsuc 9999999 ≤ℤ low_of w (no_legs w) a
low-bound w d a coordinates rules few h is cells =
    let small : AllByRecursion IsSmall a = all-onto (IsAtMost d) IsSmall (λ rows r. at_most-small d rows h r) a is.diagrams in
    let falls = falls-bound w (compact w) a coordinates rules small in
    let overlaps = overlaps-bound w a (corners w) small in
    let many : length (corners w) ≤ 128 = rw (length-map w.triangles (corner_of w)) few in
    omega (arith, ints)

pub lowest-bound : (w : Web) (d : ℕ) → AllByRecursion HasCoordinates w.points → HasEdgeRule w → IsGraded w → length w.triangles ≤ 128 → d ≤ 24 → negsuc 9999999 ≤ℤ lowest w (no_legs w) d
unfolding lowest
lowest-bound w d coordinates rules graded few h =
    least-bound (low_of w (no_legs w)) (assignments w d)
    (all-both (IsListed w d) (Contains (assignments w d)) (λ a. negsuc 9999999 ≤ℤ low_of w (no_legs w) a)
    (λ a is among. low-bound w d a coordinates rules few h is (listed-few w d a graded among)) (assignments w d) (assignments_listed w d graded) (all-members (assignments w d)))
