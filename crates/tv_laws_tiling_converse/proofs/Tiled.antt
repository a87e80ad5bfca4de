-- Triangles that tile the hull match: each hull segment is a side of the triangle with the spot there inside.
use Rattle.std.specs.Prelude.{◌≡◌, ◌≢◌, ℕ, ◌<◌, pos, ◌-ℤ◌, ◌≤ℤ◌, ◌<ℤ◌, List, length}
use Rattle.std.proofs.Common.{sym, subst, ◌∙◌, arith, inl, inr}
use Rattle.std.proofs.lemmas.Int.{ints}
use Rattle.tv_spec_plane.specs.declared.records.Triple.{Triple}
use Rattle.tv_spec_plane.specs.Plane.{Point, at, turn, Segment, IsHullSegment}
use Rattle.tv_spec_plane.specs.Tiling.{triangle_at, Tiles}
use Rattle.tv_laws_tiling.specs.Members.{Among}
use Rattle.tv_laws_tiling.specs.Edges.{sides, edges, AreTurned}
use Rattle.tv_lemmas.proofs.Signs.{nonneg-positive, sign}
use Rattle.tv_laws_tiling.specs.Points.{AreSmall, AreDistinct, SpansPlane}
use Rattle.tv_laws_tiling_converse.specs.Laws.{TilingTrianglesMatch}
use Rattle.tv_laws_tiling.proofs.Lists.{among-flat_map}
use Rattle.tv_spec_plane.proofs.Turns.{turn-rotate, turn-exchange}
use Rattle.tv_laws_tiling.proofs.Turns.{turn-apart, turn-sum, turn-flat}
use Rattle.tv_laws_tiling.proofs.Sides.{turned-at}
use Rattle.tv_laws_tiling.proofs.Spread.{spans-three}
use Rattle.tv_laws_tiling.proofs.Insides.{triangle-left}
use Rattle.tv_laws_tiling_converse.proofs.Spots.{spot, spot-generic}
use Rattle.tv_laws_tiling_converse.proofs.Neighbours.{edges-once, edges-matched}
use Rattle.tv_laws_tiling_converse.proofs.HullSpots.{place-third, near-hull}
use Rattle.tv_laws_tiling_converse.proofs.Corners.{corner-nonneg, corner-same, spot-corner, corner-facing}
use Rattle.tv_laws_tiling_converse.proofs.Between.{turn-on_line, beyond-between}

-- some listed point is strictly left of a hull segment
hull-third : (ps : List Point) → SpansPlane ps → (a b : ℕ) → IsHullSegment ps a b → (c : ℕ) × (c < length ps) × (pos 0 <ℤ turn (at ps a) (at ps b) (at ps c))
hull-third ps spans a b h = let r = spans-three ps spans in elim (sign (turn (at ps a) (at ps b) (at ps r.a))) [
  | inl less ↦ absurd (let n = h.left r.a r.a_listed in omega (arith, ints))
  | inr (inr more) ↦ (r.a, r.a_listed, more)
  | inr (inl za) ↦ elim (sign (turn (at ps a) (at ps b) (at ps r.b))) [
    | inl less ↦ absurd (let n = h.left r.b r.b_listed in omega (arith, ints))
    | inr (inr more) ↦ (r.b, r.b_listed, more)
    | inr (inl zb) ↦ (r.c, r.c_listed, nonneg-positive _ (h.left r.c r.c_listed) (λ zc. h.apart (turn-flat (at ps r.a) (at ps r.b) (at ps r.c) (at ps a) (at ps b) r.turned (zb ∙ sym za) (zc ∙ sym za))))
  ]
]

-- a corner with the segment on the side out of a has the segment as that side
hull-corner : (ps : List Point) (a b e f : ℕ) → IsHullSegment ps a b → e < length ps → turn (at ps a) (at ps e) (at ps f) ≡ pos 1 → pos 0 ≤ℤ turn (at ps a) (at ps e) (at ps b) → pos 0 ≤ℤ turn (at ps f) (at ps a) (at ps b) → at ps b ≡ at ps e
hull-corner ps a b e f h listed one out home =
    let exchanged = turn-exchange (at ps a) (at ps e) (at ps b) in
    let left = h.left e listed in
    let none : turn (at ps a) (at ps e) (at ps b) ≡ pos 0 = omega (arith, ints) in
    let on : turn (at ps a) (at ps b) (at ps e) ≡ pos 0 = omega (arith, ints) in
    let sum = turn-sum (at ps a) (at ps e) (at ps f) (at ps b) in
    let line = turn-on_line (at ps a) (at ps e) (at ps f) (at ps b) one none in
    let tip : turn (at ps e) (at ps f) (at ps a) ≡ pos 1 = turn-rotate (at ps a) (at ps e) (at ps f) ∙ one in
    elim (sign (turn (at ps f) (at ps a) (at ps b) -ℤ pos 1)) [
      | inl less ↦ absurd (h.apart (sym (corner-same (at ps a) (at ps e) (at ps f) (at ps b) one none (omega (arith, ints)))))
      | inr (inl same) ↦ corner-same (at ps e) (at ps f) (at ps a) (at ps b) tip (omega (arith, ints)) none
      | inr (inr more) ↦ absurd (h.bare e listed (beyond-between ps a b e (turn (at ps f) (at ps a) (at ps b)) (turn-apart (at ps a) (at ps e) (at ps f) one) on line (omega (arith, ints))))
    ]

pub outer-covered : (ps : List Point) (ts : List Triple) → AreSmall ps → AreDistinct ps → SpansPlane ps → AreTurned ps ts → Tiles ps ts → (s : Segment) → IsHullSegment ps s.0 s.1 → Among s (edges ts)
outer-covered ps ts small distinct spread turned tiles s h =
    let c = hull-third ps spread s.0 s.1 h in
    let place = place-third ps small s c.0 in
    let apart : turn (at ps s.0) (at ps s.1) (at ps c.0) ≢ pos 0 = λ z. let more = c.2 in omega (arith, ints) in
    let only = tiles.covered (spot (at ps s.0) (at ps s.1) (at ps c.0)) (spot-generic ps _ _ _ small place apart) (near-hull ps small s.0 s.1 c.0 h.first_listed h.second_listed c.1 apart) in
    let t = triangle_at ts only.0 in
    let corner = spot-corner ps small distinct t (turned-at ps ts turned only.0 only.1.listed) s.0 _ _ h.first_listed place (triangle-left ps _ t (turned-at ps ts turned only.0 only.1.listed) only.1.within) in
    let facing = corner-facing ps small t s.0 _ _ corner.0 corner.1 place corner.2 in
    let same : s.1 ≡ corner.0 = distinct s.1 corner.0 h.second_listed corner.2.out_listed (hull-corner ps s.0 s.1 corner.0 corner.1 h corner.2.out_listed corner.2.turned (corner-nonneg _ _ facing.out) (corner-nonneg _ _ facing.home)) in
    among-flat_map sides (record { a = 0; b = 0; c = 0 }) s ts only.0 only.1.listed (subst (λ (n : ℕ). Among (s.0, n) (sides t)) (sym same) corner.2.out)

pub tiling_triangles_match : TilingTrianglesMatch
tiling_triangles_match ps ts hull small distinct spread is_hull turned tiles = record {
  once = edges-once ps ts small distinct turned tiles;
  matched = edges-matched ps ts hull small distinct is_hull turned tiles;
  covered = λ s m. outer-covered ps ts small distinct spread turned tiles s (is_hull.each s.0 s.1 m);
}
