-- Triangles whose directed edges match tile the hull: the crossing numbers of their edges add up to those of the hull.
use Rattle.std.specs.Prelude.{◌≡◌, ◌≢◌, ℕ, ◌<◌, Bool, true, false, not, ℤ, pos, ◌+ℤ◌, ◌-ℤ◌, neg_ℤ, ◌<ℤ◌, List, length}
use Rattle.std.proofs.Common.{refl, ap, sym, subst, ◌∙◌, arith, inl, inr}
use Rattle.std.proofs.lemmas.Int.{ints}
use Rattle.tv_spec_plane.specs.declared.records.Triple.{Triple}
use Rattle.tv_spec_plane.specs.Plane.{Point, at, Segment}
use Rattle.tv_spec_plane.specs.Tiling.{Rational, side, IsGeneric, IsInHull, triangle_at}
use Rattle.tv_laws_tiling.specs.Members.{Among}
use Rattle.tv_laws_tiling.specs.Hull.{IsHull, IsRound, IsLess}
use Rattle.tv_laws_tiling.specs.Edges.{sides, edges, back, IsTurned, AreTurned}
use Rattle.tv_lemmas.proofs.Signs.{same-by_order, sign, positive, positive-true, positive-false, true-positive}
use Rattle.tv_lemmas.specs.Sums.{total}
use Rattle.tv_lemmas.proofs.Sums.{total-append, total-flat_map, total-all, bit, bits-one}
use Rattle.tv_laws_tiling.specs.Points.{AreSmall, SpansPlane}
use Rattle.tv_laws_tiling.specs.Laws.{MatchedTrianglesTile}
use Rattle.tv_laws_tiling.proofs.Members.{append-among_left, append-among_right}
use Rattle.tv_laws_tiling.proofs.Cancels.{total-cancels}
use Rattle.tv_laws_tiling.proofs.Turns.{side-back}
use Rattle.tv_laws_tiling.proofs.Spread.{spans-three}
use Rattle.tv_laws_tiling.proofs.Crossings.{number, number-back, number-climbs, number-descends, weighted-adds}
use Rattle.tv_laws_tiling.proofs.Heights.{at-small, height, height-less, height-flat, lift, lift-less, lift-least, lift-greatest, lift-weighted}
use Rattle.tv_laws_tiling.proofs.Runs.{Climbs, Descends, climb-run, descent-run, run-first, run-last, run-telescopes}
use Rattle.tv_laws_tiling.proofs.Sides.{turned-at, IsThird, third-apart, side-third, hull-outer, hull-pair}
use Rattle.tv_laws_tiling.proofs.Insides.{inside, inside-left, left-inside, triangle-left, left-in_hull}

abbrev over : List Point → Rational → ℕ → Bool
over ps p i = positive (lift p (at ps i))

unfoldable cross : List Point → Rational → Segment → ℤ
cross ps p s = number (over ps p s.0) (over ps p s.1) (positive (side (at ps s.0) (at ps s.1) p)) (positive (side (at ps s.1) (at ps s.0) p))

cross-back : (ps : List Point) (p : Rational) (s : Segment) → cross ps p (back s) ≡ neg_ℤ (cross ps p s)
unfolding cross
cross-back ps p s = number-back (over ps p s.0) (over ps p s.1) (positive (side (at ps s.0) (at ps s.1) p)) (positive (side (at ps s.1) (at ps s.0) p))

-- ---- a triangle
positive-neg : (z w : ℤ) → w ≡ neg_ℤ z → z ≢ pos 0 → positive w ≡ not (positive z)
positive-neg z w e apart = elim (sign z) [
  | inl less ↦ positive-true w (omega (arith, ints)) ∙ ap not (sym (positive-false z (omega (arith, ints))))
  | inr (inl same) ↦ absurd (apart same)
  | inr (inr more) ↦ positive-false w (omega (arith, ints)) ∙ ap not (sym (positive-true z more))
]

side-apart : (ps : List Point) (p : Rational) (s : Segment) (c : ℕ) → IsGeneric ps p → IsThird ps s c → side (at ps s.0) (at ps s.1) p ≢ pos 0
side-apart ps p s c generic third = generic.off_lines s.0 s.1 third.first third.second (third-apart ps s c third)

cross-third : (ps : List Point) (p : Rational) (s : Segment) (c : ℕ) → IsGeneric ps p → IsThird ps s c → cross ps p s ≡ number (over ps p s.0) (over ps p s.1) (positive (side (at ps s.0) (at ps s.1) p)) (not (positive (side (at ps s.0) (at ps s.1) p)))
unfolding cross
cross-third ps p s c generic third = ap (λ (r : Bool). number (over ps p s.0) (over ps p s.1) (positive (side (at ps s.0) (at ps s.1) p)) r) (positive-neg (side (at ps s.0) (at ps s.1) p) (side (at ps s.1) (at ps s.0) p) (side-back (at ps s.0) (at ps s.1) p) (side-apart ps p s c generic third))

three-same : (a b c x y z r : ℤ) → a ≡ x → b ≡ y → c ≡ z → x +ℤ (y +ℤ z) ≡ r → a +ℤ (b +ℤ (c +ℤ pos 0)) ≡ r
three-same a b c x y z r e f g h = omega (arith, ints)

triangle-cross : (ps : List Point) (p : Rational) → IsGeneric ps p → (t : Triple) → IsTurned ps t → total (cross ps p) (sides t) ≡ bit (inside ps p t)
unfolding inside
triangle-cross ps p generic t h =
    let ab = side-third ps t (t.a, t.b) h (inl refl) in
    let bc = side-third ps t (t.b, t.c) h (inr (inl refl)) in
    let ca = side-third ps t (t.c, t.a) h (inr (inr (inl refl))) in
    let weights = lift-weighted (at ps t.a) (at ps t.b) (at ps t.c) p generic.positive h.turned (record {
      ab = side-apart ps p (t.a, t.b) ab.0 generic ab.1;
      bc = side-apart ps p (t.b, t.c) bc.0 generic bc.1;
      ca = side-apart ps p (t.c, t.a) ca.0 generic ca.1;
    }) in
    three-same _ _ _ _ _ _ _ (cross-third ps p (t.a, t.b) ab.0 generic ab.1) (cross-third ps p (t.b, t.c) bc.0 generic bc.1) (cross-third ps p (t.c, t.a) ca.0 generic ca.1) (weighted-adds _ _ _ _ _ _ weights)

edges-cross : (ps : List Point) (p : Rational) → IsGeneric ps p → (ts : List Triple) → AreTurned ps ts → total (cross ps p) (edges ts) ≡ total (λ t. bit (inside ps p t)) ts
edges-cross ps p generic ts turned = total-flat_map (cross ps p) sides ts ∙ total-all (IsTurned ps) (λ t. total (cross ps p) (sides t)) (λ t. bit (inside ps p t)) (triangle-cross ps p generic) ts turned

-- ---- the hull
hull-left : (ps : List Point) (hull : List Segment) (p : Rational) → IsHull ps hull → IsInHull ps p → (s : Segment) → Among s hull → pos 0 <ℤ side (at ps s.0) (at ps s.1) p
hull-left ps hull p is_hull within s m = within s.0 s.1 (hull-pair ps s.0 s.1 (is_hull.each s.0 s.1 m))

cross-left : (ps : List Point) (p : Rational) (s : Segment) → pos 0 <ℤ side (at ps s.0) (at ps s.1) p → cross ps p s ≡ number (over ps p s.0) (over ps p s.1) true false
unfolding cross
cross-left ps p s left =
    let e = side-back (at ps s.0) (at ps s.1) p in
    rw (positive-true (side (at ps s.0) (at ps s.1) p) left, positive-false (side (at ps s.1) (at ps s.0) p) (omega (arith, ints)))

over-rises : (ps : List Point) (p : Rational) (i j : ℕ) → 0 < p.k → height (at ps i) <ℤ height (at ps j) → over ps p i ≡ true → over ps p j ≡ true
over-rises ps p i j positive_k less e =
    let more = lift-less p (at ps i) (at ps j) positive_k less in
    let up = true-positive (lift p (at ps i)) e in
    positive-true (lift p (at ps j)) (omega (arith, ints))

-- the ends of the climb are apart, since the points are not all on one level
ends-apart : (ps : List Point) (hull : List Segment) → AreSmall ps → SpansPlane ps → (r : IsRound ps hull) → r.least ≡ r.greatest → ⊥
ends-apart ps hull small spans r same =
    let spread = spans-three ps spans in
    let level : (k : ℕ) → k < length ps → height (at ps k) ≡ height (at ps r.least) = λ k h. same-by_order (height (at ps k)) (height (at ps r.least))
    (λ less. r.first.least k h (height-less _ _ (at-small ps small k) (at-small ps small r.least) less))
    (λ less. r.last.greatest k h (subst (λ (i : ℕ). IsLess (at ps i) (at ps k)) same (height-less _ _ (at-small ps small r.least) (at-small ps small k) less))) in
    height-flat (at ps spread.a) (at ps spread.b) (at ps spread.c) spread.turned
    (level _ spread.b_listed ∙ sym (level _ spread.a_listed))
    (level _ spread.c_listed ∙ sym (level _ spread.a_listed))

module _ (ps : List Point) (hull : List Segment) (p : Rational) (small : AreSmall ps) (is_hull : IsHull ps hull) (generic : IsGeneric ps p) (within : IsInHull ps p) where
  up-hull : (s : Segment) → Among s is_hull.round.up → Among s hull
  up-hull s m = subst (λ (ss : List Segment). Among s ss) (sym is_hull.round.whole) (append-among_left s is_hull.round.up is_hull.round.back m)

  back-hull : (s : Segment) → Among s is_hull.round.back → Among s hull
  back-hull s m = subst (λ (ss : List Segment). Among s ss) (sym is_hull.round.whole) (append-among_right s is_hull.round.up is_hull.round.back m)

  climb-cross : (s : Segment) → Among s is_hull.round.up → Climbs ps s → cross ps p s ≡ bit (over ps p s.1) -ℤ bit (over ps p s.0)
  climb-cross s m climbs = cross-left ps p s (hull-left ps hull p is_hull within s (up-hull s m)) ∙ number-climbs (over ps p s.0) (over ps p s.1) (over-rises ps p s.0 s.1 generic.positive climbs)

  descent-cross : (s : Segment) → Among s is_hull.round.back → Descends ps s → cross ps p s ≡ pos 0 -ℤ pos 0
  descent-cross s m descends = cross-left ps p s (hull-left ps hull p is_hull within s (back-hull s m)) ∙ number-descends (over ps p s.0) (over ps p s.1) (over-rises ps p s.1 s.0 generic.positive descends)

  -- the least point is not above p, and the greatest is
  over-least : (is_hull.round.least ≡ is_hull.round.greatest → ⊥) → over ps p is_hull.round.least ≡ false
  over-least apart =
      let out = run-first (Climbs ps) _ is_hull.round.up _ (climb-run ps small _ is_hull.round.up _ is_hull.round.climbs) apart in
      let home = run-last (Descends ps) _ is_hull.round.back _ (descent-run ps small _ is_hull.round.back _ is_hull.round.descends) (λ e. apart (sym e)) in
      let b = up-hull _ out.1 in
      let c = back-hull _ home.1 in
      let below = lift-least (at ps is_hull.round.least) (at ps out.0) (at ps home.0) p
      ((is_hull.each _ _ b).left home.0 (is_hull.each _ _ c).first_listed) (hull-left ps hull p is_hull within _ c) (hull-left ps hull p is_hull within _ b) out.2 home.2 in
      positive-false (lift p (at ps is_hull.round.least)) (omega (arith, ints))

  over-greatest : (is_hull.round.least ≡ is_hull.round.greatest → ⊥) → over ps p is_hull.round.greatest ≡ true
  over-greatest apart =
      let out = run-last (Climbs ps) _ is_hull.round.up _ (climb-run ps small _ is_hull.round.up _ is_hull.round.climbs) apart in
      let home = run-first (Descends ps) _ is_hull.round.back _ (descent-run ps small _ is_hull.round.back _ is_hull.round.descends) (λ e. apart (sym e)) in
      let c = up-hull _ out.1 in
      let b = back-hull _ home.1 in
      positive-true (lift p (at ps is_hull.round.greatest)) (lift-greatest (at ps is_hull.round.greatest) (at ps home.0) (at ps out.0) p
      ((is_hull.each _ _ b).left out.0 (is_hull.each _ _ c).first_listed) (hull-left ps hull p is_hull within _ c) (hull-left ps hull p is_hull within _ b) home.2 out.2)

  hull-cross : (is_hull.round.least ≡ is_hull.round.greatest → ⊥) → total (cross ps p) hull ≡ pos 1
  hull-cross apart =
      let r = is_hull.round in
      let climb = run-telescopes (Climbs ps) (cross ps p) (λ i. bit (over ps p i)) r.least r.up r.greatest climb-cross (climb-run ps small r.least r.up r.greatest r.climbs) in
      let descent = run-telescopes (Descends ps) (cross ps p) (λ i. pos 0) r.greatest r.back r.least descent-cross (descent-run ps small r.greatest r.back r.least r.descends) in
      let low : bit (over ps p r.least) ≡ pos 0 = ap bit (over-least apart) in
      let high : bit (over ps p r.greatest) ≡ pos 1 = ap bit (over-greatest apart) in
      let split : total (cross ps p) hull ≡ total (cross ps p) r.up +ℤ total (cross ps p) r.back = ap (total (cross ps p)) r.whole ∙ total-append (cross ps p) r.up r.back in
      omega (arith, ints)

-- ---- the theorem
pub matched_triangles_tile : MatchedTrianglesTile
matched_triangles_tile ps ts hull small spread is_hull turned matched = record {
  covered = λ p generic within.
      let cancel : total (cross ps p) (edges ts) ≡ total (cross ps p) hull = total-cancels back (λ s. refl) (cross ps p) (cross-back ps p) (edges ts) hull matched.once is_hull.once matched.matched matched.covered (λ s m. hull-outer ps ts s turned (is_hull.each s.0 s.1 m)) in
      let one : total (λ t. bit (inside ps p t)) ts ≡ pos 1 = sym (edges-cross ps p generic ts turned) ∙ (cancel ∙ hull-cross ps hull p small is_hull generic within (ends-apart ps hull small spread is_hull.round)) in
      let place = bits-one (inside ps p) (record { a = 0; b = 0; c = 0 }) ts one in (
        place.0,
        record {
          listed = place.1.listed;
          within = inl (inside-left ps p (triangle_at ts place.0) place.1.on);
          only = λ j h m. place.1.only j h (left-inside ps p (triangle_at ts j) (triangle-left ps p (triangle_at ts j) (turned-at ps ts turned j h) m));
        },
      );
  within = λ p generic i h m.
      let t = turned-at ps ts turned i h in
      left-in_hull ps p (triangle_at ts i) t generic (triangle-left ps p (triangle_at ts i) t m);
}
