-- Heights: for small points one linear function has the order by x, then y.
--
-- height a == 201 times x plus y, as the turn over a fixed line
-- lift p a == how far a is above the rational point p, times its denominator
use Rattle.std.specs.Prelude.{◌≡◌, ◌≢◌, ℕ, ◌<◌, ℤ, pos, negsuc, ◌+ℤ◌, ◌-ℤ◌, ◌*ℤ◌, ◌≤ℤ◌, ◌<ℤ◌, List}
use Rattle.std.proofs.Common.{ap, sym, ◌∙◌, arith, inl, inr}
use Rattle.std.proofs.lemmas.Int.{ints}
use Rattle.tv_spec_plane.specs.Plane.{Point, origin, at, turn}
use Rattle.tv_spec_plane.specs.Tiling.{Rational, side}
use Rattle.tv_spec_plane.specs.Limits.{HasCoordinates}
use Rattle.tv_laws_tiling.specs.Hull.{IsLess}
use Rattle.tv_laws_tiling.specs.Points.{AreSmall}
use Rattle.tv_lemmas.proofs.Integers.{mul-sub, mul-swap, diff, diff_of, diff-same, diffs, diff-pos}
use Rattle.tv_lemmas.proofs.Signs.{sign, mul-pos-pos, mul-positive, mul-pos-neg, mul-negative, factor-zero}
use Rattle.tv_lemmas.proofs.Members.{all-everywhere}
use Rattle.tv_laws_tiling.proofs.Turns.{side-sum, side-frame, side-spread, turn-flat}
use Rattle.tv_laws_tiling.proofs.Crossings.{IsWeighted}

pub at-small : (ps : List Point) → AreSmall ps → (i : ℕ) → HasCoordinates (at ps i)
at-small ps small i = all-everywhere HasCoordinates ps origin (omega arith, omega arith) small i

abbrev tilt : Point
tilt = record { x = pos 1; y = negsuc 200 }

unfoldable pub height : Point → ℤ
height a = turn origin tilt a

height-is : (a : Point) → height a ≡ a.y +ℤ (pos 201 *ℤ a.x)
unfolding height turn
height-is a = omega (arith, ints)

less_by : (p q : Point) (s t : ℤ) → s ≡ p.y +ℤ (pos 201 *ℤ p.x) → t ≡ q.y +ℤ (pos 201 *ℤ q.x) → HasCoordinates p → HasCoordinates q → IsLess p q → s <ℤ t
less_by p q s t e f hp hq (inl h) = omega (arith, ints, hp.0, hp.1, hq.0, hq.1)
less_by p q s t e f hp hq (inr h) = omega (arith, ints, h.0, h.1)

pub less-height : (p q : Point) → HasCoordinates p → HasCoordinates q → IsLess p q → height p <ℤ height q
less-height p q hp hq h = less_by p q (height p) (height q) (height-is p) (height-is q) hp hq h

by_less : (p q : Point) (s t : ℤ) → s ≡ p.y +ℤ (pos 201 *ℤ p.x) → t ≡ q.y +ℤ (pos 201 *ℤ q.x) → HasCoordinates p → HasCoordinates q → s <ℤ t → IsLess p q
by_less p q s t e f hp hq h = elim (sign (q.x -ℤ p.x)) [
  | inl less ↦ absurd (omega (arith, ints, hp.0, hp.1, hq.0, hq.1))
  | inr (inl same) ↦ inr (omega (arith, ints), omega (arith, ints))
  | inr (inr more) ↦ inl (omega (arith, ints))
]

pub height-less : (p q : Point) → HasCoordinates p → HasCoordinates q → height p <ℤ height q → IsLess p q
height-less p q hp hq h = by_less p q (height p) (height q) (height-is p) (height-is q) hp hq h

pub not-less : (p q : Point) → (p.x <ℤ q.x → ⊥) → (p.x ≡ q.x → p.y <ℤ q.y → ⊥) → IsLess p q → ⊥
not-less p q f g (inl h) = f h
not-less p q f g (inr h) = g h.0 h.1

-- three points of one height are on a line
pub height-flat : (a b c : Point) → turn a b c ≢ pos 0 → height b ≡ height a → height c ≡ height a → ⊥
unfolding height
height-flat a b c apart e f =
    let same : origin ≡ tilt = turn-flat a b c origin tilt apart e f in
    let zero_one : pos 0 ≡ pos 1 = ap (λ (p : Point). p.x) same in
    omega (arith, ints)

unfoldable pub lift : Rational → Point → ℤ
lift p a = (pos p.k *ℤ height a) -ℤ side origin tilt p

scale-less : (k : ℕ) (s t h : ℤ) → 0 < k → s <ℤ t → ((pos k *ℤ s) -ℤ h) <ℤ ((pos k *ℤ t) -ℤ h)
scale-less k s t h positive less =
    let d = mul-pos-pos (pos k) (t -ℤ s) (omega (arith, ints)) (omega (arith, ints)) in
    let e = mul-sub (pos k) t s in
    omega (arith, ints)

pub lift-less : (p : Rational) (a b : Point) → 0 < p.k → height a <ℤ height b → lift p a <ℤ lift p b
unfolding lift
lift-less p a b positive less = scale-less p.k (height a) (height b) (side origin tilt p) positive less

-- a point between the directions from a corner is below the corner where both lead down, and above it where both lead up
pub lift-least : (a b c : Point) (p : Rational) → pos 0 ≤ℤ turn a b c → pos 0 <ℤ side c a p → pos 0 <ℤ side a b p → height a <ℤ height b → height a <ℤ height c → lift p a <ℤ pos 0
unfolding lift height
lift-least a b c p d v w up_b up_c =
    let y = mul-pos-pos (side c a p) (height b -ℤ height a) v (omega (arith, ints)) in
    let z = mul-pos-pos (side a b p) (height c -ℤ height a) w (omega (arith, ints)) in
    let x = mul-positive (turn a b c) (side origin tilt p -ℤ (pos p.k *ℤ turn origin tilt a)) d (rw (side-frame a b c origin tilt p) (omega (arith, ints))) in
    omega (arith, ints)

pub lift-greatest : (a b c : Point) (p : Rational) → pos 0 ≤ℤ turn a b c → pos 0 <ℤ side c a p → pos 0 <ℤ side a b p → height b <ℤ height a → height c <ℤ height a → pos 0 <ℤ lift p a
unfolding lift height
lift-greatest a b c p d v w down_b down_c =
    let y = mul-pos-neg (side c a p) (height b -ℤ height a) v (omega (arith, ints)) in
    let z = mul-pos-neg (side a b p) (height c -ℤ height a) w (omega (arith, ints)) in
    let x = mul-negative (turn a b c) (side origin tilt p -ℤ (pos p.k *ℤ turn origin tilt a)) d (rw (side-frame a b c origin tilt p) (omega (arith, ints))) in
    omega (arith, ints)

-- the sides of a point over a triangle of turn 1 are weights of the corners
balance : (u v w a b c : ℤ) → (((w +ℤ (u +ℤ v)) *ℤ a -ℤ ((u *ℤ a) +ℤ ((v *ℤ b) +ℤ (w *ℤ c)))) *ℤ u) +ℤ (((((w +ℤ (u +ℤ v)) *ℤ b) -ℤ ((u *ℤ a) +ℤ ((v *ℤ b) +ℤ (w *ℤ c)))) *ℤ v) +ℤ ((((w +ℤ (u +ℤ v)) *ℤ c) -ℤ ((u *ℤ a) +ℤ ((v *ℤ b) +ℤ (w *ℤ c)))) *ℤ w)) ≡ diff 0 0
balance u v w a b c =
    let i = diff_of u in let j = diff_of v in let k = diff_of w in let r = diff_of a in let s = diff_of b in let t = diff_of c in
    rw (i.2, j.2, k.2, r.2, s.2, t.2) (simp diffs (diff-same _ _ _ _ (omega arith)))

balance_at : (u v w a b c k h : ℤ) → w +ℤ (u +ℤ v) ≡ k → h ≡ (u *ℤ a) +ℤ ((v *ℤ b) +ℤ (w *ℤ c)) → (((k *ℤ a) -ℤ h) *ℤ u) +ℤ ((((k *ℤ b) -ℤ h) *ℤ v) +ℤ (((k *ℤ c) -ℤ h) *ℤ w)) ≡ pos 0
balance_at u v w a b c k h e f = rw (f, ← e) (balance u v w a b c ∙ sym (diff-pos 0))

pub record AreApart (a b c : Point) (p : Rational) : Type 0 where
  pub ab : side a b p ≢ pos 0
  pub bc : side b c p ≢ pos 0
  pub ca : side c a p ≢ pos 0

scale-same : (k : ℕ) (s t h : ℤ) → 0 < k → (pos k *ℤ s) -ℤ h ≡ pos 0 → (pos k *ℤ t) -ℤ h ≡ pos 0 → s ≡ t
scale-same k s t h positive e f =
    let g : (s -ℤ t) *ℤ pos k ≡ pos 0 = mul-swap (s -ℤ t) (pos k) ∙ (mul-sub (pos k) s t ∙ omega (arith, ints)) in
    let d : s -ℤ t ≡ pos 0 = factor-zero (s -ℤ t) (pos k) g (λ z. omega (arith, ints)) in
    omega (arith, ints)

pub lift-weighted : (a b c : Point) (p : Rational) → 0 < p.k → turn a b c ≡ pos 1 → AreApart a b c p → IsWeighted (lift p a) (lift p b) (lift p c) (side b c p) (side c a p) (side a b p)
unfolding lift height
lift-weighted a b c p positive one apart =
    let sum : side a b p +ℤ (side b c p +ℤ side c a p) ≡ pos p.k = side-sum a b c p ∙ rw one (omega (arith, ints)) in
    record {
      balance = balance_at (side b c p) (side c a p) (side a b p) (height a) (height b) (height c) (pos p.k) (side origin tilt p) sum (side-spread a b c origin tilt p one);
      total = omega (arith, ints);
      u_apart = apart.bc;
      v_apart = apart.ca;
      w_apart = apart.ab;
      tilted = λ e f g. height-flat a b c (λ z. omega (arith, ints)) (scale-same p.k (height b) (height a) (side origin tilt p) positive f e) (scale-same p.k (height c) (height a) (side origin tilt p) positive g e);
    }
