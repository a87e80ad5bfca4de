-- Spots: rational points just beside a segment, near its first end. The side of a spot over a line is a number whose
-- digits are the turns of three points over that line, so that its sign is that of the first digit that is not 0.
--
-- spot a b c == (W W a + W b + c) / (W W + W + 1) for W = 1,000,000
-- digits s t u == W W s + W t + u
-- Leads s t u == the first of s, t and u that is not 0 is above 0
-- mirror a c == the point opposite to c, seen from a
-- IsNear p   == both coordinates are at most 300 in absolute value
use Rattle.std.specs.Prelude.{◌≡◌, ◌≢◌, ◌≤◌, ℤ, pos, ◌+ℤ◌, ◌-ℤ◌, ◌*ℤ◌, ◌<ℤ◌, ◌⊎◌, List, unsigned_abs}
use Rattle.std.proofs.Common.{sym, ◌∙◌, arith, inl, inr}
use Rattle.std.proofs.lemmas.Int.{ints, unsigned_abs-mul}
use Rattle.std.proofs.Math.Nat.{mul-le-mul}
use Rattle.tv_spec_plane.specs.Plane.{Point, at, turn}
use Rattle.tv_spec_plane.specs.Tiling.{Rational, side, IsGeneric, IsLeft}
use Rattle.tv_spec_plane.specs.Limits.{HasCoordinates}
use Rattle.tv_laws_tiling.specs.Points.{AreSmall}
use Rattle.tv_lemmas.proofs.Integers.{diff_of, diff-same, diffs}
use Rattle.tv_lemmas.proofs.Signs.{sign}
use Rattle.tv_laws_tiling.proofs.Heights.{at-small}
use Rattle.tv_spec_plane.proofs.Turns.{turn-rotate, turn-return, turn-last}
use Rattle.tv_laws_tiling.proofs.Turns.{turn-is, side-is, turn-flat}

abbrev pub digits : ℤ → ℤ → ℤ → ℤ
digits s t u = (pos 1000000000000 *ℤ s) +ℤ ((pos 1000000 *ℤ t) +ℤ u)

unfoldable pub spot : Point → Point → Point → Rational
spot a b c = record { x = digits a.x b.x c.x; y = digits a.y b.y c.y; k = 1000001000001 }

-- ---- the side of a spot
digits-from : (a b c e : ℤ) → digits a b c -ℤ (pos 1000001000001 *ℤ e) ≡ digits (a -ℤ e) (b -ℤ e) (c -ℤ e)
digits-from a b c e = omega (arith, ints)

combine : (m n p q ax ay bx by cx cy : ℤ) → (m *ℤ ((p *ℤ ay) +ℤ ((q *ℤ by) +ℤ cy))) -ℤ (n *ℤ ((p *ℤ ax) +ℤ ((q *ℤ bx) +ℤ cx))) ≡ (p *ℤ ((m *ℤ ay) -ℤ (n *ℤ ax))) +ℤ ((q *ℤ ((m *ℤ by) -ℤ (n *ℤ bx))) +ℤ ((m *ℤ cy) -ℤ (n *ℤ cx)))
combine m n p q ax ay bx by cx cy =
    let g = diff_of m in let h = diff_of n in let i = diff_of p in let j = diff_of q in let r = diff_of ax in let s = diff_of ay in let t = diff_of bx in let u = diff_of by in let v = diff_of cx in let w = diff_of cy in
    rw (g.2, h.2, i.2, j.2, r.2, s.2, t.2, u.2, v.2, w.2) (simp diffs (diff-same _ _ _ _ (omega arith)))

side-spot : (e f a b c : Point) → side e f (spot a b c) ≡ digits (turn e f a) (turn e f b) (turn e f c)
unfolding spot
side-spot e f a b c =
    rw (side-is e f (spot a b c), digits-from a.x b.x c.x e.x, digits-from a.y b.y c.y e.y, turn-is e f a, turn-is e f b, turn-is e f c)
    (combine (f.x -ℤ e.x) (f.y -ℤ e.y) (pos 1000000000000) (pos 1000000) (a.x -ℤ e.x) (a.y -ℤ e.y) (b.x -ℤ e.x) (b.y -ℤ e.y) (c.x -ℤ e.x) (c.y -ℤ e.y))

-- ---- digits
abbrev pub Leads : ℤ → ℤ → ℤ → Type 0
Leads s t u = (pos 0 <ℤ s) ⊎ ((s ≡ pos 0) × ((pos 0 <ℤ t) ⊎ ((t ≡ pos 0) × (pos 0 <ℤ u))))

abbrev IsDigit : ℤ → Type 0
IsDigit z = unsigned_abs z ≤ 160000

digits-lead : (s t u : ℤ) → IsDigit s → IsDigit t → IsDigit u → pos 0 <ℤ digits s t u → Leads s t u
digits-lead s t u hs ht hu h = elim (sign s) [
  | inl less ↦ absurd (omega (arith, ints))
  | inr (inl same) ↦ inr (
    same,
    elim (sign t) [
      | inl less ↦ absurd (omega (arith, ints))
      | inr (inl none) ↦ inr (none, omega (arith, ints))
      | inr (inr more) ↦ inl more
    ],
  )
  | inr (inr more) ↦ inl more
]

lead-digits : (s t u : ℤ) → IsDigit s → IsDigit t → IsDigit u → Leads s t u → pos 0 <ℤ digits s t u
lead-digits s t u hs ht hu (inl h) = omega (arith, ints)
lead-digits s t u hs ht hu (inr (e, inl h)) = omega (arith, ints)
lead-digits s t u hs ht hu (inr (e, inr (f, h))) = omega (arith, ints)

digits-none : (s t u : ℤ) → IsDigit s → IsDigit t → IsDigit u → digits s t u ≡ pos 0 → (s ≡ pos 0) × (t ≡ pos 0) × (u ≡ pos 0)
digits-none s t u hs ht hu e =
    let first : s ≡ pos 0 = elim (sign s) [
      | inl less ↦ absurd (omega (arith, ints))
      | inr (inl same) ↦ same
      | inr (inr more) ↦ absurd (omega (arith, ints))
    ] in
    let second : t ≡ pos 0 = elim (sign t) [
      | inl less ↦ absurd (omega (arith, ints))
      | inr (inl same) ↦ same
      | inr (inr more) ↦ absurd (omega (arith, ints))
    ] in
    (first, second, omega (arith, ints))

-- ---- turns are digits
pub record IsNear (p : Point) : Type 0 where
  pub x : unsigned_abs p.x ≤ 300
  pub y : unsigned_abs p.y ≤ 300

pub small-near : (p : Point) → HasCoordinates p → IsNear p
small-near p h = record { x = omega (arith, h.0); y = omega (arith, h.1) }

product_within : (a b : ℤ) → unsigned_abs a ≤ 200 → unsigned_abs b ≤ 400 → unsigned_abs (a *ℤ b) ≤ 80000
product_within a b h k = rw (unsigned_abs-mul a b) (mul-le-mul h k)

difference_within : (u v : ℤ) → unsigned_abs u ≤ 80000 → unsigned_abs v ≤ 80000 → unsigned_abs (u -ℤ v) ≤ 160000
difference_within u v h k = omega (arith, ints)

turn-digit : (e f p : Point) → HasCoordinates e → HasCoordinates f → IsNear p → IsDigit (turn e f p)
turn-digit e f p he hf hp = rw (turn-is e f p) (difference_within ((f.x -ℤ e.x) *ℤ (p.y -ℤ e.y)) ((f.y -ℤ e.y) *ℤ (p.x -ℤ e.x))
    (product_within (f.x -ℤ e.x) (p.y -ℤ e.y) (omega (arith, ints, he.0, hf.0)) (omega (arith, ints, he.1, hp.y)))
    (product_within (f.y -ℤ e.y) (p.x -ℤ e.x) (omega (arith, ints, he.1, hf.1)) (omega (arith, ints, he.0, hp.x))))

pub mirror : Point → Point → Point
mirror a c = record { x = a.x +ℤ (a.x -ℤ c.x); y = a.y +ℤ (a.y -ℤ c.y) }

pub mirror-near : (a c : Point) → HasCoordinates a → HasCoordinates c → IsNear (mirror a c)
unfolding mirror
mirror-near a c ha hc = record { x = omega (arith, ints, ha.0, hc.0); y = omega (arith, ints, ha.1, hc.1) }

pub turn-mirror : (e f a c : Point) → turn e f (mirror a c) ≡ turn e f a +ℤ (turn e f a -ℤ turn e f c)
unfolding turn mirror
turn-mirror e f a c =
    let i = diff_of a.x in let j = diff_of a.y in let r = diff_of e.x in let s = diff_of e.y in let t = diff_of f.x in let u = diff_of f.y in let v = diff_of c.x in let w = diff_of c.y in
    rw (i.2, j.2, r.2, s.2, t.2, u.2, v.2, w.2) (simp diffs (diff-same _ _ _ _ (omega arith)))

-- ---- spots over lines of small points
pub record IsPlace (a b c : Point) : Type 0 where
  pub first : HasCoordinates a
  pub second : HasCoordinates b
  pub third : IsNear c

pub spot-leads : (e f a b c : Point) → HasCoordinates e → HasCoordinates f → IsPlace a b c → pos 0 <ℤ side e f (spot a b c) → Leads (turn e f a) (turn e f b) (turn e f c)
spot-leads e f a b c he hf h left =
    let more = rw (side-spot e f a b c) at left in
    digits-lead _ _ _ (turn-digit e f a he hf (small-near a h.first)) (turn-digit e f b he hf (small-near b h.second)) (turn-digit e f c he hf h.third) more

pub leads-spot : (e f a b c : Point) → HasCoordinates e → HasCoordinates f → IsPlace a b c → Leads (turn e f a) (turn e f b) (turn e f c) → pos 0 <ℤ side e f (spot a b c)
leads-spot e f a b c he hf h lead = rw (side-spot e f a b c) (lead-digits _ _ _ (turn-digit e f a he hf (small-near a h.first)) (turn-digit e f b he hf (small-near b h.second)) (turn-digit e f c he hf h.third) lead)

spot-off : (e f a b c : Point) → HasCoordinates e → HasCoordinates f → IsPlace a b c → turn a b c ≢ pos 0 → side e f (spot a b c) ≡ pos 0 → e ≡ f
spot-off e f a b c he hf h apart on =
    let none = digits-none _ _ _ (turn-digit e f a he hf (small-near a h.first)) (turn-digit e f b he hf (small-near b h.second)) (turn-digit e f c he hf h.third) (rw (side-spot e f a b c) at on) in
    turn-flat a b c e f apart (none.1 ∙ sym none.0) (none.2 ∙ sym none.0)

pub spot-generic : (ps : List Point) (a b c : Point) → AreSmall ps → IsPlace a b c → turn a b c ≢ pos 0 → IsGeneric ps (spot a b c)
unfolding spot
spot-generic ps a b c small h apart = record {
  positive = omega arith;
  off_lines = λ i j hi hj distinct on. distinct (spot-off (at ps i) (at ps j) a b c (at-small ps small i) (at-small ps small j) h apart on);
}

-- a spot on the left of the side ab of a triangle is inside the triangle
pub spot-left : (a b c d : Point) → HasCoordinates d → IsPlace a b c → pos 0 <ℤ turn a b c → turn a b d ≡ pos 1 → IsLeft a b d (spot a b c)
spot-left a b c d hd h left one = record {
  ab = leads-spot a b a b c h.first h.second h (inr (turn-return a b, inr (turn-last a b, left)));
  bc = leads-spot b d a b c h.second hd h (inl (let e = turn-rotate a b d in omega (arith, ints)));
  ca = leads-spot d a a b c hd h.first h (inr (turn-last d a, inl (let e = turn-rotate d a b in omega (arith, ints))));
}
