-- Triangles that tile, side by side: no side stands twice, and beyond a side that is no hull segment the triangle with
-- the spot there inside has the side in the other direction.
use Rattle.std.specs.Prelude.{◌≡◌, ℕ, ◌<◌, ℤ, pos, ◌+ℤ◌, ◌*ℤ◌, ◌≤ℤ◌, ◌<ℤ◌, ◌⊎◌, List, length}
use Rattle.std.proofs.Common.{sym, subst, ◌∙◌, arith, inl, inr}
use Rattle.std.proofs.lemmas.Int.{ints}
use Rattle.tv_spec_plane.specs.declared.records.Triple.{Triple}
use Rattle.tv_spec_plane.specs.Plane.{Point, at, turn, Segment, IsHullSegment}
use Rattle.tv_spec_plane.specs.Tiling.{Rational, side, IsGeneric, IsInHull, IsLeft, IsInTriangle, triangle_at, Tiles}
use Rattle.tv_laws_tiling.specs.Members.{Among, Once}
use Rattle.tv_laws_tiling.specs.Hull.{IsHull}
use Rattle.tv_laws_tiling.specs.Edges.{sides, edges, back, AreTurned}
use Rattle.tv_lemmas.proofs.Signs.{mul-nonneg-neg, factor-one}
use Rattle.tv_laws_tiling.specs.Points.{AreSmall, AreDistinct}
use Rattle.tv_laws_tiling.proofs.Lists.{flat_map-among, among-flat_map, once-flat_map, find-negative}
use Rattle.tv_laws_tiling.proofs.Heights.{at-small}
use Rattle.tv_spec_plane.proofs.Turns.{turn-rotate, turn-return, turn-last}
use Rattle.tv_laws_tiling.proofs.Turns.{turn-sum, turn-spread}
use Rattle.tv_laws_tiling.proofs.Sides.{turned-at, IsThird, third-apart, IsSide, side-of, sides-once}
use Rattle.tv_laws_tiling.proofs.Insides.{triangle-left}
use Rattle.tv_laws_tiling_converse.proofs.Spots.{spot, Leads, mirror, turn-mirror, spot-leads, leads-spot, spot-generic, spot-left}
use Rattle.tv_laws_tiling_converse.proofs.HullSpots.{place-third, place-mirror, mirror-turn, mirror-hull}
use Rattle.tv_laws_tiling_converse.proofs.Corners.{corner-nonneg, corner-same, IsCorner, spot-corner, corner-facing}
use Rattle.tv_laws_tiling_converse.proofs.Between.{primitive-bare}

-- b = a + v (e - a) + w (f - a), seen from c over a: a, e, f, b have the turns x, y, z, t there
never-by : (u v w x y z t : ℤ) → t ≡ (u *ℤ x) +ℤ ((v *ℤ y) +ℤ (w *ℤ z)) → x ≡ pos 0 → w ≡ pos 0 → t ≡ pos 1 → pos 0 ≤ℤ v → y <ℤ pos 0 → ⊥
never-by u v w x y z t e ex ew et hv hy =
    let f = rw (ex, ew, et) at e in
    omega (arith, ints, f, mul-nonneg-neg v y hv hy)

back-one : (u v w x y z t : ℤ) → t ≡ (u *ℤ x) +ℤ ((v *ℤ y) +ℤ (w *ℤ z)) → x ≡ pos 0 → v ≡ pos 0 → t ≡ pos 1 → pos 0 <ℤ w → w ≡ pos 1
back-one u v w x y z t e ex ev et hw =
    let f = rw (ex, ev, et) at e in
    factor-one w z (omega (arith, ints)) (omega (arith, ints, f))

lead-third : (s t u : ℤ) → s ≡ pos 0 → t ≡ pos 0 → Leads s t u → pos 0 <ℤ u
lead-third s t u e f (inl h) = absurd (omega (arith, ints))
lead-third s t u e f (inr (g, inl h)) = absurd (omega (arith, ints))
lead-third s t u e f (inr (g, inr h)) = h.1

module _ (ps : List Point) (ts : List Triple) (small : AreSmall ps) (distinct : AreDistinct ps) (turned : AreTurned ps ts) (tiles : Tiles ps ts) where
  -- ---- no side stands twice
  one-triangle : (p : Rational) → IsGeneric ps p → (i j : ℕ) → i < length ts → j < length ts → IsInTriangle ps (triangle_at ts i) p → IsInTriangle ps (triangle_at ts j) p → i ≡ j
  one-triangle p generic i j hi hj mi mj =
      let only = tiles.covered p generic (tiles.within p generic i hi mi) in
      only.1.only i hi mi ∙ sym (only.1.only j hj mj)

  one-side : (s : Segment) (i j : ℕ) → i < length ts → j < length ts → Among s (sides (triangle_at ts i)) → Among s (sides (triangle_at ts j)) → i ≡ j
  one-side s i j hi hj mi mj =
      let c = side-of ps (triangle_at ts i) s (turned-at ps ts turned i hi) mi in
      let d = side-of ps (triangle_at ts j) s (turned-at ps ts turned j hj) mj in
      let one = c.1.third.turned in
      let place = place-third ps small s c.0 in
      let left : pos 0 <ℤ turn (at ps s.0) (at ps s.1) (at ps c.0) = omega (arith, ints) in
      let p = spot (at ps s.0) (at ps s.1) (at ps c.0) in
      one-triangle p (spot-generic ps _ _ _ small place (λ z. omega (arith, ints))) i j hi hj
      (inl (c.1.to p (spot-left _ _ _ (at ps c.0) (at-small ps small c.0) place left c.1.third.turned)))
      (inl (d.1.to p (spot-left _ _ _ (at ps d.0) (at-small ps small d.0) place left d.1.third.turned)))

  pub edges-once : Once (edges ts)
  edges-once = once-flat_map sides (record { a = 0; b = 0; c = 0 }) ts (λ i h. sides-once ps (triangle_at ts i) (turned-at ps ts turned i h)) one-side

  -- ---- the triangle beyond a side
  -- b is on the line of the side out of a: then c would be on its other side
  out-never : (s : Segment) (c e f : ℕ) → IsThird ps s c → turn (at ps s.0) (at ps e) (at ps f) ≡ pos 1 → turn (at ps s.0) (at ps e) (at ps s.1) ≡ pos 0 → pos 0 <ℤ turn (at ps s.0) (at ps e) (mirror (at ps s.0) (at ps c)) → pos 0 ≤ℤ turn (at ps f) (at ps s.0) (at ps s.1) → ⊥
  out-never s c e f third one none beyond weight =
      let spread = turn-spread (at ps s.0) (at ps e) (at ps f) (at ps c) (at ps s.0) (at ps s.1) one in
      let m = turn-mirror (at ps s.0) (at ps e) (at ps s.0) (at ps c) in
      let l = turn-return (at ps s.0) (at ps e) in
      let r = turn-rotate (at ps c) (at ps s.0) (at ps e) in
      let t = turn-rotate (at ps c) (at ps s.0) (at ps s.1) in
      let y : turn (at ps c) (at ps s.0) (at ps e) <ℤ pos 0 = omega (arith, ints) in
      never-by _ _ _ _ _ _ _ spread (turn-last (at ps c) (at ps s.0)) none (sym t ∙ third.turned) weight y

  -- b is on the line of the side home to a: then it is that side's beginning
  home-back : (s : Segment) (c e f : ℕ) → IsThird ps s c → turn (at ps s.0) (at ps e) (at ps f) ≡ pos 1 → turn (at ps f) (at ps s.0) (at ps s.1) ≡ pos 0 → pos 0 <ℤ turn (at ps s.0) (at ps e) (at ps s.1) → at ps s.1 ≡ at ps f
  home-back s c e f third one none weight =
      let spread = turn-spread (at ps s.0) (at ps e) (at ps f) (at ps c) (at ps s.0) (at ps s.1) one in
      let t = turn-rotate (at ps c) (at ps s.0) (at ps s.1) in
      let weight_one : turn (at ps s.0) (at ps e) (at ps s.1) ≡ pos 1 = back-one (turn (at ps e) (at ps f) (at ps s.1)) (turn (at ps f) (at ps s.0) (at ps s.1)) (turn (at ps s.0) (at ps e) (at ps s.1)) (turn (at ps c) (at ps s.0) (at ps s.0)) (turn (at ps c) (at ps s.0) (at ps e)) (turn (at ps c) (at ps s.0) (at ps f)) (turn (at ps c) (at ps s.0) (at ps s.1)) spread (turn-last (at ps c) (at ps s.0)) none (sym t ∙ third.turned) weight in
      let sum = turn-sum (at ps s.0) (at ps e) (at ps f) (at ps s.1) in
      corner-same (at ps f) (at ps s.0) (at ps e) (at ps s.1) (sym (turn-rotate (at ps f) (at ps s.0) (at ps e)) ∙ one) none (omega (arith, ints))

  -- b is inside the corner: then the near side of ab is in both triangles, and so they are one, but the far side is not
  inside-never : (s : Segment) (i j c e f : ℕ) → i < length ts → j < length ts → IsSide ps (triangle_at ts i) s c → IsCorner ps (triangle_at ts j) s.0 e f (spot (at ps s.0) (at ps s.1) (mirror (at ps s.0) (at ps c))) → pos 0 <ℤ turn (at ps s.0) (at ps e) (at ps s.1) → pos 0 <ℤ turn (at ps f) (at ps s.0) (at ps s.1) → IsLeft (at ps (triangle_at ts j).a) (at ps (triangle_at ts j).b) (at ps (triangle_at ts j).c) (spot (at ps s.0) (at ps s.1) (mirror (at ps s.0) (at ps c))) → ⊥
  inside-never s i j c e f hi hj is_side corner out home left =
      let a = at ps s.0 in
      let b = at ps s.1 in
      let small_a = at-small ps small s.0 in
      let small_e = at-small ps small e in
      let small_f = at-small ps small f in
      let one = is_side.third.turned in
      let tip : turn (at ps e) (at ps f) a ≡ pos 1 = turn-rotate a (at ps e) (at ps f) ∙ corner.turned in
      let place = place-third ps small s c in
      let near = spot a b (at ps c) in
      let within_i : IsLeft (at ps (triangle_at ts i).a) (at ps (triangle_at ts i).b) (at ps (triangle_at ts i).c) near = is_side.to near (spot-left a b (at ps c) (at ps c) (at-small ps small c) place (omega (arith, ints)) one) in
      let within_j : IsLeft (at ps (triangle_at ts j).a) (at ps (triangle_at ts j).b) (at ps (triangle_at ts j).c) near = corner.to near (record {
        ab = leads-spot a (at ps e) a b (at ps c) small_a small_e place (inr (turn-return a (at ps e), inl out));
        bc = leads-spot (at ps e) (at ps f) a b (at ps c) small_e small_f place (inl (omega (arith, ints)));
        ca = leads-spot (at ps f) a a b (at ps c) small_f small_a place (inr (turn-last (at ps f) a, inl home));
      }) in
      let same : j ≡ i = one-triangle near (spot-generic ps a b (at ps c) small place (λ z. omega (arith, ints))) j i hj hi (inl within_j) (inl within_i) in
      let far : pos 0 <ℤ side a b (spot a b (mirror a (at ps c))) = is_side.left _ (subst (λ (n : ℕ). IsLeft (at ps (triangle_at ts n).a) (at ps (triangle_at ts n).b) (at ps (triangle_at ts n).c) (spot a b (mirror a (at ps c)))) same left) in
      let above = lead-third _ _ _ (turn-return a b) (turn-last a b) (spot-leads a b a b (mirror a (at ps c)) small_a (at-small ps small s.1) (place-mirror ps small s c) far) in
      let below = mirror-turn ps small s c is_side.third in
      omega (arith, ints)

  beyond-side : (s : Segment) (i c : ℕ) → i < length ts → IsSide ps (triangle_at ts i) s c → IsInHull ps (spot (at ps s.0) (at ps s.1) (mirror (at ps s.0) (at ps c))) → Among (back s) (edges ts)
  beyond-side s i c hi is_side within =
      let third = is_side.third in
      let place = place-mirror ps small s c in
      let far = mirror-turn ps small s c third in
      let only = tiles.covered (spot (at ps s.0) (at ps s.1) (mirror (at ps s.0) (at ps c))) (spot-generic ps _ _ _ small place (λ z. omega (arith, ints))) within in
      let j = only.0 in
      let t = triangle_at ts j in
      let corner = spot-corner ps small distinct t (turned-at ps ts turned j only.1.listed) s.0 _ _ third.first place (triangle-left ps _ t (turned-at ps ts turned j only.1.listed) only.1.within) in
      let e = corner.0 in
      let f = corner.1 in
      let facing = corner-facing ps small t s.0 _ _ e f place corner.2 in
      elim facing.out [
        | inr out ↦ absurd (out-never s c e f third corner.2.turned out.0 out.1 (corner-nonneg _ _ facing.home))
        | inl out ↦ elim facing.home [
          | inr home ↦
              let same : s.1 ≡ f = distinct s.1 f third.second corner.2.home_listed (home-back s c e f third corner.2.turned home.0 out) in
              among-flat_map sides (record { a = 0; b = 0; c = 0 }) (back s) ts j only.1.listed (subst (λ (n : ℕ). Among (n, s.0) (sides t)) (sym same) corner.2.home)
          | inl home ↦ absurd (inside-never s i j c e f hi only.1.listed is_side corner.2 out home (triangle-left ps _ t (turned-at ps ts turned j only.1.listed) only.1.within))
        ]
      ]

-- a side with no listed point beyond it is a hull segment
side-outer : (ps : List Point) (s : Segment) (c : ℕ) → IsThird ps s c → ((k : ℕ) → k < length ps → pos 0 ≤ℤ turn (at ps s.0) (at ps s.1) (at ps k)) → IsHullSegment ps s.0 s.1
side-outer ps s c third left = record {
  first_listed = third.first;
  second_listed = third.second;
  apart = third-apart ps s c third;
  left = left;
  bare = λ k h between. primitive-bare ps s.0 s.1 k (at ps c) third.turned between;
}

pub edges-outer : (ps : List Point) (ts : List Triple) → AreSmall ps → AreDistinct ps → AreTurned ps ts → Tiles ps ts → (s : Segment) → Among s (edges ts) → Among (back s) (edges ts) ⊎ IsHullSegment ps s.0 s.1
edges-outer ps ts small distinct turned tiles s m =
    let place = flat_map-among sides (record { a = 0; b = 0; c = 0 }) s ts m in
    let c = side-of ps (triangle_at ts place.0) s (turned-at ps ts turned place.0 place.1) place.2 in
    elim (find-negative (λ (q : Point). turn (at ps s.0) (at ps s.1) q) (record { x = pos 0; y = pos 0 }) ps) [
      | inl left ↦ inr (side-outer ps s c.0 c.1.third left)
      | inr beyond ↦ inl (beyond-side ps ts small distinct turned tiles s place.0 c.0 place.1 c.1 (mirror-hull ps small s c.0 beyond.0 c.1.third beyond.1 beyond.2))
    ]

pub edges-matched : (ps : List Point) (ts : List Triple) (hull : List Segment) → AreSmall ps → AreDistinct ps → IsHull ps hull → AreTurned ps ts → Tiles ps ts → (s : Segment) → Among s (edges ts) → Among (back s) (edges ts) ⊎ Among s hull
edges-matched ps ts hull small distinct is_hull turned tiles s m = elim (edges-outer ps ts small distinct turned tiles s m) [ inl b ↦ inl b | inr outer ↦ inr (is_hull.whole s.0 s.1 outer) ]
