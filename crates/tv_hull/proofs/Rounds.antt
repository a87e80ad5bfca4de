-- A way up and a way down make the hull: all hull segments lie on them, each once.
use Rattle.std.specs.Prelude.{◌≡◌, ℕ, ◌<◌, pos, ◌≤ℤ◌, ◌<ℤ◌, List, [], ◌∷◌, ◌++◌, length}
use Rattle.std.specs.List.{AllByRecursion}
use Rattle.std.proofs.Common.{subst, sym, refl, arith, inl, inr}
use Rattle.std.proofs.lemmas.Int.{ints}
use Rattle.tv_hull.specs.declared.order.Heading.{Heading}
use Rattle.tv_hull.specs.declared.order.Heading.TheVariants.{Up, Down}
use Rattle.tv_lattice.specs.Limits.{HasCoordinates}
use Rattle.tv_spec_plane.specs.Plane.{Point, at, turn, Segment, IsHullSegment}
use Rattle.tv_laws_tiling.specs.Members.{Among, Once}
use Rattle.tv_laws_tiling.proofs.Members.{among-append, append-among_left, append-among_right, once-append}
use Rattle.tv_laws_tiling.specs.Hull.{IsLeast, IsClimb, IsDescent, IsRound, IsHull}
use Rattle.tv_lemmas.proofs.Signs.{sign}
use Rattle.tv_laws_tiling.specs.Points.{AreDistinct}
use Rattle.tv_hull.specs.Ways.{IsEnd, IsStart, IsWay, IsRun}
use Rattle.tv_spec_plane.proofs.Turns.{turn-exchange}
use Rattle.tv_hull.proofs.Rises.{toward, toward-back, toward-add, toward-same, toward-opposite}
use Rattle.tv_hull.proofs.Compare.{small-at, ahead-toward, not_ahead-toward, toward-level}
use Rattle.tv_hull.proofs.HalfPlane.{overlap}
use Rattle.tv_hull.proofs.Between.{ahead-between}
use Rattle.tv_hull.proofs.Steps.{level}

-- ---- two hull segments whose ways overlap are one
module _ (ps : List Point) (small : AllByRecursion HasCoordinates ps) (distinct : AreDistinct ps) where
  same_start : (heading : Heading) (a b c d : ℕ) → IsHullSegment ps a b → IsHullSegment ps c d → pos 0 ≤ℤ toward heading (at ps c) (at ps a) → pos 0 <ℤ toward heading (at ps a) (at ps d) → pos 0 <ℤ toward heading (at ps a) (at ps b) → c ≡ a
  same_start heading a b c d first second hc hd hb =
      let low = overlap heading (at ps c) (at ps d) (at ps a) (at ps b) hc (omega (arith, ints)) hb (first.left c second.first_listed) (first.left d second.second_listed) in
      let line : turn (at ps c) (at ps d) (at ps a) ≡ pos 0 = omega (arith, ints, second.left a first.first_listed) in
      elim (sign (toward heading (at ps c) (at ps a))) [
        | inl less ↦ absurd (omega (arith, ints))
        | inr (inl same) ↦ distinct c a second.first_listed first.first_listed (toward-level heading (at ps c) (at ps a) (small-at ps c small) (small-at ps a small) same)
        | inr (inr more) ↦ absurd (second.bare a first.first_listed (ahead-between ps heading c d a line more hd))
      ]

  same_end : (heading : Heading) (a b d : ℕ) → IsHullSegment ps a b → IsHullSegment ps a d → pos 0 <ℤ toward heading (at ps a) (at ps d) → pos 0 <ℤ toward heading (at ps a) (at ps b) → d ≡ b
  same_end heading a b d first second hd hb =
      let exchange = turn-exchange (at ps a) (at ps b) (at ps d) in
      let line : turn (at ps a) (at ps b) (at ps d) ≡ pos 0 = omega (arith, ints, first.left d second.second_listed, second.left b first.second_listed) in
      elim (sign (toward heading (at ps d) (at ps b))) [
        | inl less ↦ absurd (second.bare b first.second_listed (ahead-between ps heading a d b (omega (arith, ints)) hb (omega (arith, ints, toward-back heading (at ps d) (at ps b)))))
        | inr (inl same) ↦ distinct d b second.second_listed first.second_listed (toward-level heading (at ps d) (at ps b) (small-at ps d small) (small-at ps b small) same)
        | inr (inr more) ↦ absurd (first.bare d second.second_listed (ahead-between ps heading a b d line hd more))
      ]

  same_segment : (heading : Heading) (a b c d : ℕ) → IsHullSegment ps a b → IsHullSegment ps c d → pos 0 ≤ℤ toward heading (at ps c) (at ps a) → pos 0 <ℤ toward heading (at ps a) (at ps d) → pos 0 <ℤ toward heading (at ps a) (at ps b) → (c ≡ a) × (d ≡ b)
  same_segment heading a b c d first second hc hd hb =
      let start = same_start heading a b c d first second hc hd hb in
      (start, same_end heading a b d first (subst (λ (e : ℕ). IsHullSegment ps e d) start second) hd hb)

  -- ---- ways
  way-whole : (heading : Heading) (s : ℕ) (ss : List Segment) (e a b : ℕ) → IsWay ps heading s ss e → ((p q : ℕ) → Among (p, q) ss → IsHullSegment ps p q) → IsHullSegment ps a b → pos 0 <ℤ toward heading (at ps a) (at ps b) → pos 0 ≤ℤ toward heading (at ps s) (at ps a) → pos 0 <ℤ toward heading (at ps a) (at ps e) → Among (a, b) ss
  way-whole heading s [] e a b way each hull hb hs he =
      let back = toward-back heading (at ps s) (at ps a) in
      let same = subst (λ (m : ℕ). pos 0 <ℤ toward heading (at ps a) (at ps m)) (sym way) he in
      absurd (omega (arith, ints))
  way-whole heading s (t ∷ ss) e a b way each hull hb hs he =
      let from = subst (λ (m : ℕ). pos 0 ≤ℤ toward heading (at ps m) (at ps a)) (sym way.0) hs in
      elim (sign (toward heading (at ps a) (at ps t.1))) [
        | inl less ↦ inr (way-whole heading t.1 ss e a b way.2 (λ p q h. each p q (inr h)) hull hb (omega (arith, ints, toward-back heading (at ps t.1) (at ps a))) he)
        | inr (inl same) ↦ inr (way-whole heading t.1 ss e a b way.2 (λ p q h. each p q (inr h)) hull hb (omega (arith, ints, toward-back heading (at ps t.1) (at ps a))) he)
        | inr (inr more) ↦ let one = same_segment heading a b t.0 t.1 hull (each t.0 t.1 (inl refl)) from more hb in inl (sym (same_pair t.0 t.1 a b one.0 one.1))
      ]
    where
      same_pair : (p q r u : ℕ) → p ≡ r → q ≡ u → ◌≡◌ {A = Segment} (p, q) (r, u)
      same_pair p q r u h k = cc

  -- a member begins at s or ahead of it, and leads ahead
  way-from : (heading : Heading) (s : ℕ) (ss : List Segment) (e : ℕ) (t : Segment) → IsWay ps heading s ss e → Among t ss → (pos 0 ≤ℤ toward heading (at ps s) (at ps t.0)) × (pos 0 <ℤ toward heading (at ps t.0) (at ps t.1))
  way-from heading s [] e t way among = absurd among
  way-from heading s (u ∷ ss) e t way (inl same) =
      subst (λ (v : Segment). (pos 0 ≤ℤ toward heading (at ps s) (at ps v.0)) × (pos 0 <ℤ toward heading (at ps v.0) (at ps v.1))) (sym same)
      (subst (λ (m : ℕ). pos 0 ≤ℤ toward heading (at ps m) (at ps u.0)) way.0 (omega (arith, ints, toward-same heading (at ps u.0))), ahead-toward heading (at ps u.0) (at ps u.1) (small-at ps u.0 small) (small-at ps u.1 small) way.1)
  way-from heading s (u ∷ ss) e t way (inr among) =
      let later = way-from heading u.1 ss e t way.2 among in
      let step = ahead-toward heading (at ps u.0) (at ps u.1) (small-at ps u.0 small) (small-at ps u.1 small) way.1 in
      let from : pos 0 <ℤ toward heading (at ps s) (at ps u.1) = subst (λ (m : ℕ). pos 0 <ℤ toward heading (at ps m) (at ps u.1)) way.0 step in
      (omega (arith, ints, toward-add heading (at ps s) (at ps u.1) (at ps t.0), later.0), later.1)

  way-once : (heading : Heading) (s : ℕ) (ss : List Segment) (e : ℕ) → IsWay ps heading s ss e → Once ss
  way-once heading s [] e way = tt
  way-once heading s (u ∷ ss) e way =
      (λ among. let again = way-from heading u.1 ss e u way.2 among in absurd (omega (arith, ints, again.0, again.1, toward-back heading (at ps u.0) (at ps u.1))), way-once heading u.1 ss e way.2)

  run-whole : (heading : Heading) (s : ℕ) (ss : List Segment) (e a b : ℕ) → IsStart ps heading s → IsRun ps heading s ss e → IsHullSegment ps a b → pos 0 <ℤ toward heading (at ps a) (at ps b) → Among (a, b) ss
  run-whole heading s ss e a b start run hull hb =
      way-whole heading s ss e a b run.way run.each hull hb
      (omega (arith, ints, toward-back heading (at ps a) (at ps s), not_ahead-toward heading (at ps a) (at ps s) (small-at ps a small) (small-at ps s small) (start.first a hull.first_listed)))
      (omega (arith, ints, toward-add heading (at ps a) (at ps b) (at ps e), toward-back heading (at ps e) (at ps b), not_ahead-toward heading (at ps e) (at ps b) (small-at ps e small) (small-at ps b small) (run.last b hull.second_listed)))

  -- the way heading ends where the way up began
  closes : (s e : ℕ) → IsLeast ps s → e < length ps → IsEnd ps Down e → e ≡ s
  closes s e least listed end = distinct e s listed least.listed (level Up (at ps s) (at ps e) (small-at ps s small) (small-at ps e small) (end s least.listed) (least.least e listed))

  way-climb : (s : ℕ) (ss : List Segment) (e : ℕ) → IsWay ps Up s ss e → IsClimb ps s ss e
  way-climb s [] e way = way
  way-climb s (t ∷ ss) e way = (way.0, way.1, way-climb t.1 ss e way.2)

  way-descent : (s : ℕ) (ss : List Segment) (e : ℕ) → IsWay ps Down s ss e → IsDescent ps s ss e
  way-descent s [] e way = way
  way-descent s (t ∷ ss) e way = (way.0, way.1, way-descent t.1 ss e way.2)

  least-start : (s : ℕ) → IsLeast ps s → IsStart ps Up s
  least-start s least = record { listed = least.listed; first = least.least }

  end-start : (heading : Heading) (s : ℕ) (ss : List Segment) (e : ℕ) → IsRun ps Up s ss e → IsStart ps Down e
  end-start heading s ss e run = record { listed = run.listed; first = run.last }

  round-runs : (s g e : ℕ) (up back : List Segment) → IsLeast ps s → IsRun ps Up s up g → IsRun ps Down g back e → IsRound ps (up ++ back)
  round-runs s g e up back least rise fall = record {
    least = s;
    greatest = g;
    up = up;
    back = back;
    whole = refl;
    first = least;
    last = record { listed = rise.listed; greatest = rise.last };
    climbs = way-climb s up g rise.way;
    descends = subst (λ (m : ℕ). IsDescent ps g back m) (closes s e least fall.listed fall.last) (way-descent g back e fall.way);
  }

  whole-runs : (s g e : ℕ) (up back : List Segment) → IsLeast ps s → IsRun ps Up s up g → IsRun ps Down g back e → (a b : ℕ) → IsHullSegment ps a b → Among (a, b) (up ++ back)
  whole-runs s g e up back least rise fall a b hull = elim (sign (toward Up (at ps a) (at ps b))) [
    | inl less ↦ append-among_right (a, b) up back (run-whole Down g back e a b (end-start Up s up g rise) fall hull (omega (arith, ints, toward-opposite (at ps a) (at ps b))))
    | inr (inl same) ↦ absurd (hull.apart (toward-level Up (at ps a) (at ps b) (small-at ps a small) (small-at ps b small) same))
    | inr (inr more) ↦ append-among_left (a, b) up back (run-whole Up s up g a b (least-start s least) rise hull more)
  ]

  pub hull-runs : (s g e : ℕ) (up back : List Segment) → IsLeast ps s → IsRun ps Up s up g → IsRun ps Down g back e → IsHull ps (up ++ back)
  hull-runs s g e up back least rise fall = record {
    round = round-runs s g e up back least rise fall;
    each = λ a b among. elim (among-append (a, b) up back among) [ inl first ↦ rise.each a b first | inr second ↦ fall.each a b second ];
    whole = whole-runs s g e up back least rise fall;
    once = once-append up back (way-once Up s up g rise.way) (way-once Down g back e fall.way)
        (λ t first second. let h = way-from Up s up g t rise.way first in let k = way-from Down g back e t fall.way second in absurd (omega (arith, ints, h.1, k.1, toward-opposite (at ps t.0) (at ps t.1))));
  }
