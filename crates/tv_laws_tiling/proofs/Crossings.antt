-- Crossing numbers: how often the way from a rational point to the right crosses a directed segment, rising segments
-- counting 1 and falling ones -1. The sides of a triangle add up to 1 where the point is inside, and to 0 elsewhere.
--
-- number x y l r == the crossing number of a segment whose first and second end are above the point where x and y are
--                   true, with the point strictly left of it where l is true and strictly right where r is
use Rattle.std.specs.Prelude.{◌≡◌, ◌≢◌, Bool, true, false, not, ◌&&◌, ℤ, pos, ◌+ℤ◌, ◌-ℤ◌, ◌*ℤ◌, neg_ℤ, ◌≤ℤ◌, ◌<ℤ◌}
use Rattle.std.proofs.Common.{refl, ap, sym, ◌∙◌, arith, inl, inr}
use Rattle.std.proofs.Math.Bool.{and_assoc, and_comm}
use Rattle.std.proofs.lemmas.Int.{ints}
use Rattle.tv_lemmas.proofs.Signs.{sign, mul-pos-pos, mul-pos-neg, mul-nonpos-pos, mul-nonpos-neg, factor-zero, positive, positive-true, true-positive, false-positive}
use Rattle.tv_lemmas.proofs.Sums.{bit}

unfoldable pub number : Bool → Bool → Bool → Bool → ℤ
number x y l r = bit (not x && (y && l)) -ℤ bit (not y && (x && r))

pub number-back : (x y l r : Bool) → number y x r l ≡ neg_ℤ (number x y l r)
unfolding number
number-back x y l r = omega (arith, ints)

-- on a segment with the point on its left
pub number-climbs : (x y : Bool) → (x ≡ true → y ≡ true) → number x y true false ≡ bit y -ℤ bit x
unfolding number
number-climbs true true f = refl
number-climbs true false f = absurd (cc (f refl))
number-climbs false true f = refl
number-climbs false false f = refl

pub number-descends : (x y : Bool) → (y ≡ true → x ≡ true) → number x y true false ≡ pos 0 -ℤ pos 0
unfolding number
number-descends true true f = refl
number-descends true false f = refl
number-descends false true f = absurd (cc (f refl))
number-descends false false f = refl

-- the sides ab, bc and ca of a triangle, whose corners are above the point where x, y and z are true, with the point
-- left of ab, bc and ca where t, r and s are true, and otherwise right
abbrev Adds : Bool → Bool → Bool → Bool → Bool → Bool → Type 0
Adds x y z r s t = number x y t (not t) +ℤ (number y z r (not r) +ℤ number z x s (not s)) ≡ bit (s && (t && r))

adds-rotate : (x y z r s t : Bool) → Adds y z x s t r → Adds x y z r s t
adds-rotate x y z r s t h =
    let e : (t && (r && s)) ≡ (s && (t && r)) = sym (and_assoc t r s) ∙ and_comm (t && r) s in
    let f : bit (t && (r && s)) ≡ bit (s && (t && r)) = ap bit e in
    omega (arith, ints)

-- one corner is on the other side of the level of the point
adds-odd : (y r s t : Bool) → (s ≡ true → t ≡ true → r ≡ true) → (s ≡ false → t ≡ false → ⊥) → Adds (not y) y y r s t
unfolding number
adds-odd true true true true f g = refl
adds-odd false true true true f g = refl
adds-odd y false true true f g = absurd (cc (f refl refl))
adds-odd true r true false f g = refl
adds-odd false r true false f g = refl
adds-odd true r false true f g = refl
adds-odd false r false true f g = refl
adds-odd y r false false f g = absurd (g refl refl)

adds-level : (y r s t : Bool) → (r ≡ true → s ≡ true → t ≡ true → ⊥) → Adds y y y r s t
unfolding number
adds-level y true true true f = absurd (f refl refl refl)
adds-level true false true true f = refl
adds-level false false true true f = refl
adds-level true r true false f = refl
adds-level false r true false f = refl
adds-level true r false t f = refl
adds-level false r false t f = refl

-- the heights a, b, c of the corners above a point whose weights are u, v, w
pub record IsWeighted (a b c u v w : ℤ) : Type 0 where
  pub balance : (a *ℤ u) +ℤ ((b *ℤ v) +ℤ (c *ℤ w)) ≡ pos 0
  pub total : pos 0 <ℤ (u +ℤ (v +ℤ w))
  pub u_apart : u ≢ pos 0
  pub v_apart : v ≢ pos 0
  pub w_apart : w ≢ pos 0
  pub tilted : a ≡ pos 0 → b ≡ pos 0 → c ≡ pos 0 → ⊥

weighted-rotate : {a b c u v w : ℤ} → IsWeighted a b c u v w → IsWeighted b c a v w u
weighted-rotate h = record {
  balance = omega (arith, ints, h.balance);
  total = omega (arith, ints, h.total);
  u_apart = h.v_apart;
  v_apart = h.w_apart;
  w_apart = h.u_apart;
  tilted = λ e f g. h.tilted g e f;
}

-- the height of a has a sign of its own
record IsOdd (a b c : ℤ) (y : Bool) : Type 0 where
  first : positive a ≡ not y
  second : positive b ≡ y
  third : positive c ≡ y

odd-positive : (a b c u v w : ℤ) (y : Bool) → IsWeighted a b c u v w → IsOdd a b c y → pos 0 <ℤ v → pos 0 <ℤ w → pos 0 <ℤ u
odd-positive a b c u v w true h odd hv hw = elim (sign u) [
  | inl less ↦ absurd (omega (arith, ints, h.balance, mul-nonpos-neg a u (false-positive a odd.first) less, mul-pos-pos b v (true-positive b odd.second) hv, mul-pos-pos c w (true-positive c odd.third) hw))
  | inr (inl same) ↦ absurd (h.u_apart same)
  | inr (inr more) ↦ more
]
odd-positive a b c u v w false h odd hv hw = elim (sign u) [
  | inl less ↦ absurd (omega (arith, ints, h.balance, mul-pos-neg a u (true-positive a odd.first) less, mul-nonpos-pos b v (false-positive b odd.second) hv, mul-nonpos-pos c w (false-positive c odd.third) hw))
  | inr (inl same) ↦ absurd (h.u_apart same)
  | inr (inr more) ↦ more
]

odd-negative : (a b c u v w : ℤ) (y : Bool) → IsWeighted a b c u v w → IsOdd a b c y → v <ℤ pos 0 → w <ℤ pos 0 → ⊥
odd-negative a b c u v w true h odd hv hw = elim (sign u) [
  | inl less ↦ omega (arith, ints, h.total)
  | inr (inl same) ↦ h.u_apart same
  | inr (inr more) ↦ omega (arith, ints, h.balance, mul-nonpos-pos a u (false-positive a odd.first) more, mul-pos-neg b v (true-positive b odd.second) hv, mul-pos-neg c w (true-positive c odd.third) hw)
]
odd-negative a b c u v w false h odd hv hw = elim (sign u) [
  | inl less ↦ omega (arith, ints, h.total)
  | inr (inl same) ↦ h.u_apart same
  | inr (inr more) ↦ omega (arith, ints, h.balance, mul-pos-pos a u (true-positive a odd.first) more, mul-nonpos-neg b v (false-positive b odd.second) hv, mul-nonpos-neg c w (false-positive c odd.third) hw)
]

false-negative : (z : ℤ) → z ≢ pos 0 → positive z ≡ false → z <ℤ pos 0
false-negative z apart e = elim (sign z) [
  | inl less ↦ less
  | inr (inl same) ↦ absurd (apart same)
  | inr (inr more) ↦ absurd (omega (arith, ints, false-positive z e))
]

weighted-odd : (a b c u v w : ℤ) (y : Bool) → IsWeighted a b c u v w → IsOdd a b c y → Adds (not y) y y (positive u) (positive v) (positive w)
weighted-odd a b c u v w y h odd = adds-odd y (positive u) (positive v) (positive w)
    (λ s t. positive-true u (odd-positive a b c u v w y h odd (true-positive v s) (true-positive w t)))
    (λ s t. odd-negative a b c u v w y h odd (false-negative v h.v_apart s) (false-negative w h.w_apart t))

weighted-above : (a b c u v w : ℤ) → IsWeighted a b c u v w → pos 0 <ℤ a → pos 0 <ℤ b → pos 0 <ℤ c → pos 0 <ℤ u → pos 0 <ℤ v → pos 0 <ℤ w → ⊥
weighted-above a b c u v w h ha hb hc hu hv hw = omega (arith, ints, h.balance, mul-pos-pos a u ha hu, mul-pos-pos b v hb hv, mul-pos-pos c w hc hw)

weighted-below : (a b c u v w : ℤ) → IsWeighted a b c u v w → a ≤ℤ pos 0 → b ≤ℤ pos 0 → c ≤ℤ pos 0 → pos 0 <ℤ u → pos 0 <ℤ v → pos 0 <ℤ w → ⊥
weighted-below a b c u v w h ha hb hc hu hv hw =
    let p = mul-nonpos-pos a u ha hu in
    let q = mul-nonpos-pos b v hb hv in
    let r = mul-nonpos-pos c w hc hw in
    h.tilted
    (factor-zero a u (omega (arith, ints, h.balance, p, q, r)) h.u_apart)
    (factor-zero b v (omega (arith, ints, h.balance, p, q, r)) h.v_apart)
    (factor-zero c w (omega (arith, ints, h.balance, p, q, r)) h.w_apart)

weighted-adds_at : (a b c u v w : ℤ) (x y z : Bool) → IsWeighted a b c u v w → positive a ≡ x → positive b ≡ y → positive c ≡ z → Adds x y z (positive u) (positive v) (positive w)
weighted-adds_at a b c u v w true true true h ea eb ec = adds-level true (positive u) (positive v) (positive w) (λ r s t. weighted-above a b c u v w h (true-positive a ea) (true-positive b eb) (true-positive c ec) (true-positive u r) (true-positive v s) (true-positive w t))
weighted-adds_at a b c u v w false false false h ea eb ec = adds-level false (positive u) (positive v) (positive w) (λ r s t. weighted-below a b c u v w h (false-positive a ea) (false-positive b eb) (false-positive c ec) (true-positive u r) (true-positive v s) (true-positive w t))
weighted-adds_at a b c u v w false true true h ea eb ec = weighted-odd a b c u v w true h (record { first = ea; second = eb; third = ec })
weighted-adds_at a b c u v w true false false h ea eb ec = weighted-odd a b c u v w false h (record { first = ea; second = eb; third = ec })
weighted-adds_at a b c u v w true false true h ea eb ec = adds-rotate true false true (positive u) (positive v) (positive w) (weighted-odd b c a v w u true (weighted-rotate h) (record { first = eb; second = ec; third = ea }))
weighted-adds_at a b c u v w false true false h ea eb ec = adds-rotate false true false (positive u) (positive v) (positive w) (weighted-odd b c a v w u false (weighted-rotate h) (record { first = eb; second = ec; third = ea }))
weighted-adds_at a b c u v w true true false h ea eb ec = adds-rotate true true false (positive u) (positive v) (positive w) (adds-rotate true false true (positive v) (positive w) (positive u) (weighted-odd c a b w u v true (weighted-rotate (weighted-rotate h)) (record { first = ec; second = ea; third = eb })))
weighted-adds_at a b c u v w false false true h ea eb ec = adds-rotate false false true (positive u) (positive v) (positive w) (adds-rotate false true false (positive v) (positive w) (positive u) (weighted-odd c a b w u v false (weighted-rotate (weighted-rotate h)) (record { first = ec; second = ea; third = eb })))

pub weighted-adds : (a b c u v w : ℤ) → IsWeighted a b c u v w → number (positive a) (positive b) (positive w) (not (positive w)) +ℤ (number (positive b) (positive c) (positive u) (not (positive u)) +ℤ number (positive c) (positive a) (positive v) (not (positive v))) ≡ bit (positive v && (positive w && positive u))
weighted-adds a b c u v w h = weighted-adds_at a b c u v w (positive a) (positive b) (positive c) h refl refl refl
