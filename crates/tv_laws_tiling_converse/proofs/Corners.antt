-- Corners: a turned triangle with a spot of a, b and c inside has a as a corner, and b leads into the corner.
use Rattle.std.specs.Prelude.{◌≡◌, ℕ, ◌<◌, ℤ, pos, ◌+ℤ◌, neg_ℤ, ◌≤ℤ◌, ◌<ℤ◌, ◌⊎◌, List, length}
use Rattle.std.proofs.Common.{refl, ap, sym, subst, ◌∙◌, arith, inl, inr}
use Rattle.std.proofs.lemmas.Int.{ints}
use Rattle.tv_spec_plane.specs.declared.records.Triple.{Triple}
use Rattle.tv_spec_plane.specs.Plane.{Point, at, turn}
use Rattle.tv_spec_plane.specs.Tiling.{Rational, IsLeft}
use Rattle.tv_laws_tiling.specs.Members.{Among}
use Rattle.tv_laws_tiling.specs.Edges.{sides, IsTurned}
use Rattle.tv_lemmas.proofs.Signs.{sign}
use Rattle.tv_laws_tiling.specs.Points.{AreSmall, AreDistinct}
use Rattle.tv_laws_tiling.proofs.Heights.{at-small}
use Rattle.tv_spec_plane.proofs.Turns.{turn-rotate, turn-return, turn-last, turn-back}
use Rattle.tv_laws_tiling.proofs.Turns.{turn-sum, turn-flat}
use Rattle.tv_laws_tiling_converse.proofs.Spots.{spot, Leads, IsPlace, spot-leads}

-- a point on the lines of both sides at a corner is the corner
pub corner-same : (d e f p : Point) → turn d e f ≡ pos 1 → turn d e p ≡ pos 0 → turn f d p ≡ pos 0 → p ≡ d
corner-same d e f p one de fd =
    let pd : turn p d d ≡ pos 0 = turn-last p d in
    let pe : turn p d e ≡ pos 0 = sym (turn-rotate p d e) ∙ de in
    let pf : turn p d f ≡ pos 0 = sym (turn-rotate p d f) ∙ (turn-back f d p ∙ ap neg_ℤ fd) in
    turn-flat d e f p d (λ z. omega (arith, ints)) (pe ∙ sym pd) (pf ∙ sym pd)

-- the first digit of a spot is at least 0 on each side
lead-nonneg : (s t u : ℤ) → Leads s t u → pos 0 ≤ℤ s
lead-nonneg s t u (inl h) = omega (arith, ints)
lead-nonneg s t u (inr h) = omega (arith, ints, h.0)

-- a corner of the triangle t at point a: the side from a leads to e, and the side to a comes from f
pub record IsCorner (ps : List Point) (t : Triple) (a e f : ℕ) (p : Rational) : Type 0 where
  pub out : Among (a, e) (sides t)
  pub home : Among (f, a) (sides t)
  pub out_listed : e < length ps
  pub home_listed : f < length ps
  pub turned : turn (at ps a) (at ps e) (at ps f) ≡ pos 1
  pub left : IsLeft (at ps a) (at ps e) (at ps f) p
  pub to : (q : Rational) → IsLeft (at ps a) (at ps e) (at ps f) q → IsLeft (at ps t.a) (at ps t.b) (at ps t.c) q

one_of : (x y z : ℤ) → pos 0 ≤ℤ x → pos 0 ≤ℤ y → pos 0 ≤ℤ z → x +ℤ (y +ℤ z) ≡ pos 1 → ((x ≡ pos 0) × (z ≡ pos 0)) ⊎ (((y ≡ pos 0) × (x ≡ pos 0)) ⊎ ((z ≡ pos 0) × (y ≡ pos 0)))
one_of x y z hx hy hz e = elim (sign x) [
  | inl less ↦ absurd (omega (arith, ints))
  | inr (inr more) ↦ inr (inr (omega (arith, ints), omega (arith, ints)))
  | inr (inl same) ↦ elim (sign y) [
    | inl less ↦ absurd (omega (arith, ints))
    | inr (inl none) ↦ inr (inl (none, same))
    | inr (inr more) ↦ inl (same, omega (arith, ints))
  ]
]

-- the corner with its index replaced
corner-at : (ps : List Point) (t : Triple) (a d e f : ℕ) (p : Rational) → d ≡ a → IsCorner ps t d e f p → IsCorner ps t a e f p
corner-at ps t a d e f p same h = subst (λ (i : ℕ). IsCorner ps t i e f p) same h

pub spot-corner : (ps : List Point) → AreSmall ps → AreDistinct ps → (t : Triple) → IsTurned ps t → (a : ℕ) (b c : Point) → a < length ps → IsPlace (at ps a) b c → IsLeft (at ps t.a) (at ps t.b) (at ps t.c) (spot (at ps a) b c) → (e : ℕ) × (f : ℕ) × IsCorner ps t a e f (spot (at ps a) b c)
spot-corner ps small distinct t h a b c listed place left =
    let at_a = at-small ps small t.a in
    let at_b = at-small ps small t.b in
    let at_c = at-small ps small t.c in
    let ab = lead-nonneg _ _ _ (spot-leads (at ps t.a) (at ps t.b) (at ps a) b c at_a at_b place left.ab) in
    let bc = lead-nonneg _ _ _ (spot-leads (at ps t.b) (at ps t.c) (at ps a) b c at_b at_c place left.bc) in
    let ca = lead-nonneg _ _ _ (spot-leads (at ps t.c) (at ps t.a) (at ps a) b c at_c at_a place left.ca) in
    let turned_b : turn (at ps t.b) (at ps t.c) (at ps t.a) ≡ pos 1 = turn-rotate (at ps t.a) (at ps t.b) (at ps t.c) ∙ h.turned in
    let turned_c : turn (at ps t.c) (at ps t.a) (at ps t.b) ≡ pos 1 = turn-rotate (at ps t.b) (at ps t.c) (at ps t.a) ∙ turned_b in
    elim (one_of _ _ _ ab bc ca (turn-sum (at ps t.a) (at ps t.b) (at ps t.c) (at ps a) ∙ h.turned)) [
      | inl m ↦ (
        t.b,
        t.c,
        corner-at ps t a t.a t.b t.c _ (distinct t.a a h.listed.a listed (sym (corner-same _ _ _ _ h.turned m.0 m.1))) (record {
          out = inl refl;
          home = inr (inr (inl refl));
          out_listed = h.listed.b;
          home_listed = h.listed.c;
          turned = h.turned;
          left = left;
          to = λ q m. m;
        }),
      )
      | inr (inl m) ↦ (
        t.c,
        t.a,
        corner-at ps t a t.b t.c t.a _ (distinct t.b a h.listed.b listed (sym (corner-same _ _ _ _ turned_b m.0 m.1))) (record {
          out = inr (inl refl);
          home = inl refl;
          out_listed = h.listed.c;
          home_listed = h.listed.a;
          turned = turned_b;
          left = record { ab = left.bc; bc = left.ca; ca = left.ab };
          to = λ q m. record { ab = m.ca; bc = m.ab; ca = m.bc };
        }),
      )
      | inr (inr m) ↦ (
        t.a,
        t.b,
        corner-at ps t a t.c t.a t.b _ (distinct t.c a h.listed.c listed (sym (corner-same _ _ _ _ turned_c m.0 m.1))) (record {
          out = inr (inr (inl refl));
          home = inr (inl refl);
          out_listed = h.listed.a;
          home_listed = h.listed.b;
          turned = turned_c;
          left = record { ab = left.ca; bc = left.ab; ca = left.bc };
          to = λ q m. record { ab = m.bc; bc = m.ca; ca = m.ab };
        }),
      )
    ]

-- ---- how b lies at the corner: left of the side out of a, or on it, and left of the side home to a, or on it
lead-second : (s t u : ℤ) → s ≡ pos 0 → Leads s t u → (pos 0 <ℤ t) ⊎ ((t ≡ pos 0) × (pos 0 <ℤ u))
lead-second s t u e (inl h) = absurd (omega (arith, ints))
lead-second s t u e (inr h) = h.1

pub record IsFacing (ps : List Point) (a : ℕ) (b c : Point) (e f : ℕ) : Type 0 where
  pub out : (pos 0 <ℤ turn (at ps a) (at ps e) b) ⊎ ((turn (at ps a) (at ps e) b ≡ pos 0) × (pos 0 <ℤ turn (at ps a) (at ps e) c))
  pub home : (pos 0 <ℤ turn (at ps f) (at ps a) b) ⊎ ((turn (at ps f) (at ps a) b ≡ pos 0) × (pos 0 <ℤ turn (at ps f) (at ps a) c))

pub corner-facing : (ps : List Point) → AreSmall ps → (t : Triple) (a : ℕ) (b c : Point) (e f : ℕ) → IsPlace (at ps a) b c → IsCorner ps t a e f (spot (at ps a) b c) → IsFacing ps a b c e f
corner-facing ps small t a b c e f place h = record {
  out = lead-second _ _ _ (turn-return (at ps a) (at ps e)) (spot-leads (at ps a) (at ps e) (at ps a) b c (at-small ps small a) (at-small ps small e) place h.left.ab);
  home = lead-second _ _ _ (turn-last (at ps f) (at ps a)) (spot-leads (at ps f) (at ps a) (at ps a) b c (at-small ps small f) (at-small ps small a) place h.left.ca);
}

pub corner-nonneg : (t u : ℤ) → (pos 0 <ℤ t) ⊎ ((t ≡ pos 0) × (pos 0 <ℤ u)) → pos 0 ≤ℤ t
corner-nonneg t u (inl h) = omega (arith, ints)
corner-nonneg t u (inr h) = omega (arith, ints, h.0)
