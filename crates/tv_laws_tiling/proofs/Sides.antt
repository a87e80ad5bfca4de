-- The sides of turned triangles: each has a third point, to its left.
use Rattle.std.specs.Prelude.{◌<ℤ◌, ◌≡◌, ◌≢◌, ℕ, ◌<◌, pos, List, length}
use Rattle.std.proofs.Common.{refl, ap, sym, subst, ◌∙◌, arith, inl, inr}
use Rattle.std.proofs.lemmas.Int.{ints}
use Rattle.tv_spec_plane.specs.declared.records.Triple.{Triple}
use Rattle.tv_spec_plane.specs.Plane.{Point, at, turn, Segment, IsHullSegment}
use Rattle.tv_spec_plane.specs.Tiling.{Rational, side, triangle_at, IsHullPair, IsLeft}
use Rattle.tv_laws_tiling.specs.Members.{Among, Once}
use Rattle.tv_laws_tiling.specs.Edges.{sides, edges, back, IsTurned, AreTurned}
use Rattle.tv_laws_tiling.specs.Points.{SpansPlane}
use Rattle.tv_lemmas.proofs.Members.{all-at}
use Rattle.tv_laws_tiling.proofs.Lists.{flat_map-among}
use Rattle.tv_spec_plane.proofs.Turns.{turn-rotate, turn-back}
use Rattle.tv_laws_tiling.proofs.Turns.{turn-apart}

pub turned-at : (ps : List Point) (ts : List Triple) → AreTurned ps ts → (i : ℕ) → i < length ts → IsTurned ps (triangle_at ts i)
turned-at ps ts turned i h = all-at (IsTurned ps) ts _ turned i h

-- with a triangle the points are not all on a line
pub turned-spread : (ps : List Point) (ts : List Triple) → 0 < length ts → AreTurned ps ts → SpansPlane ps
turned-spread ps ts some turned =
    let t = turned-at ps ts turned 0 some in
    λ flat. let e = flat (triangle_at ts 0).a (triangle_at ts 0).b (triangle_at ts 0).c t.listed.a t.listed.b t.listed.c in omega (arith, ints, t.turned)

-- point c is a third point of the side s
pub record IsThird (ps : List Point) (s : Segment) (c : ℕ) : Type 0 where
  pub first : s.0 < length ps
  pub second : s.1 < length ps
  pub third : c < length ps
  pub turned : turn (at ps s.0) (at ps s.1) (at ps c) ≡ pos 1

pub third-apart : (ps : List Point) (s : Segment) (c : ℕ) → IsThird ps s c → at ps s.0 ≢ at ps s.1
third-apart ps s c h = turn-apart (at ps s.0) (at ps s.1) (at ps c) h.turned

-- the side s of the triangle t with third point c: the inside of t is the inside of the three points from s on
pub record IsSide (ps : List Point) (t : Triple) (s : Segment) (c : ℕ) : Type 0 where
  pub third : IsThird ps s c
  pub to : (p : Rational) → IsLeft (at ps s.0) (at ps s.1) (at ps c) p → IsLeft (at ps t.a) (at ps t.b) (at ps t.c) p
  pub left : (p : Rational) → IsLeft (at ps t.a) (at ps t.b) (at ps t.c) p → pos 0 <ℤ side (at ps s.0) (at ps s.1) p

side-same : (ps : List Point) (t : Triple) (r s : Segment) (c : ℕ) → r ≡ s → IsSide ps t s c → IsSide ps t r c
side-same ps t r s c e h = subst (λ (u : Segment). IsSide ps t u c) (sym e) h

pub side-of : (ps : List Point) (t : Triple) (s : Segment) → IsTurned ps t → Among s (sides t) → (c : ℕ) × IsSide ps t s c
side-of ps t s h (inl e) = (
  t.c,
  side-same ps t s _ t.c e (record {
    third = record { first = h.listed.a; second = h.listed.b; third = h.listed.c; turned = h.turned };
    to = λ p m. m;
    left = λ p m. m.ab;
  }),
)
side-of ps t s h (inr (inl e)) = (
  t.a,
  side-same ps t s _ t.a e (record {
    third = record { first = h.listed.b; second = h.listed.c; third = h.listed.a; turned = turn-rotate (at ps t.a) (at ps t.b) (at ps t.c) ∙ h.turned };
    to = λ p m. record { ab = m.ca; bc = m.ab; ca = m.bc };
    left = λ p m. m.bc;
  }),
)
side-of ps t s h (inr (inr (inl e))) = (
  t.b,
  side-same ps t s _ t.b e (record {
    third = record { first = h.listed.c; second = h.listed.a; third = h.listed.b; turned = turn-rotate (at ps t.b) (at ps t.c) (at ps t.a) ∙ (turn-rotate (at ps t.a) (at ps t.b) (at ps t.c) ∙ h.turned) };
    to = λ p m. record { ab = m.bc; bc = m.ca; ca = m.ab };
    left = λ p m. m.ca;
  }),
)
side-of ps t s h (inr (inr (inr m))) = elim m [ ]

pub side-third : (ps : List Point) (t : Triple) (s : Segment) → IsTurned ps t → Among s (sides t) → (c : ℕ) × IsThird ps s c
side-third ps t s h m = let r = side-of ps t s h m in (r.0, r.1.third)

-- no side of a triangle stands twice in it
pub sides-once : (ps : List Point) (t : Triple) → IsTurned ps t → Once (sides t)
sides-once ps t h =
    let b = side-of ps t (t.b, t.c) h (inr (inl refl)) in
    let c = side-of ps t (t.c, t.a) h (inr (inr (inl refl))) in
    let a = side-of ps t (t.a, t.b) h (inl refl) in
    let apart : (r : Segment) (d : ℕ) → IsThird ps r d → r.0 ≡ r.1 → ⊥ = λ r d third e. third-apart ps r d third (ap (at ps) e) in (
      λ m. elim m [
        | inl e ↦ apart (t.a, t.b) a.0 a.1.third (ap (λ (s : Segment). s.0) e)
        | inr (inl e) ↦ apart (t.c, t.a) c.0 c.1.third (sym (ap (λ (s : Segment). s.0) e))
        | inr (inr n) ↦ n
      ],
      (
        λ m. elim m [
          | inl e ↦ apart (t.b, t.c) b.0 b.1.third (ap (λ (s : Segment). s.0) e)
          | inr n ↦ n
        ],
        (λ n. n, tt),
      ),
    )

pub edge-third : (ps : List Point) (ts : List Triple) (s : Segment) → AreTurned ps ts → Among s (edges ts) → (c : ℕ) × IsThird ps s c
edge-third ps ts s turned m =
    let place = flat_map-among sides (record { a = 0; b = 0; c = 0 }) s ts m in
    side-third ps (triangle_at ts place.0) s (turned-at ps ts turned place.0 place.1) place.2

-- the back of a hull segment is no side
pub hull-outer : (ps : List Point) (ts : List Triple) (s : Segment) → AreTurned ps ts → IsHullSegment ps s.0 s.1 → Among (back s) (edges ts) → ⊥
hull-outer ps ts s turned hull m =
    let c = edge-third ps ts (back s) turned m in
    let left = hull.left c.0 c.1.third in
    let e = turn-back (at ps s.1) (at ps s.0) (at ps c.0) in
    let one = c.1.turned in
    omega (arith, ints)

pub hull-pair : (ps : List Point) (a b : ℕ) → IsHullSegment ps a b → IsHullPair ps a b
hull-pair ps a b h = record { first_listed = h.first_listed; second_listed = h.second_listed; apart = h.apart; left = h.left }
