-- What the turns of points in an open half-plane say of one another.
use Rattle.std.specs.Prelude.{◌≡◌, zero, suc, ℤ, pos, negsuc, ◌+ℤ◌, ◌*ℤ◌, ◌≤ℤ◌, ◌<ℤ◌, ◌⊎◌}
use Rattle.std.proofs.Common.{arith, inl, inr}
use Rattle.std.proofs.lemmas.Int.{ints}
use Rattle.tv_hull.specs.declared.order.Heading.{Heading}
use Rattle.tv_lattice.specs.Limits.{HasCoordinates}
use Rattle.tv_spec_plane.specs.Plane.{Point, turn}
use Rattle.tv_lemmas.proofs.Signs.{sign, mul-pos-pos, mul-neg-neg, mul-nonneg-nonneg, mul-zero}
use Rattle.tv_hull.specs.Ways.{IsAhead, IsKept}
use Rattle.tv_spec_plane.proofs.Turns.{turn-rotate, turn-exchange}
use Rattle.tv_hull.proofs.Rises.{toward, toward-back, toward-add, by_toward}
use Rattle.tv_hull.proofs.Compare.{ahead-toward, not_ahead-toward}

pub mul-nonpos-nonpos : (a b : ℤ) → a ≤ℤ pos 0 → b ≤ℤ pos 0 → pos 0 ≤ℤ (a *ℤ b)
mul-nonpos-nonpos (pos zero) b h k = omega (arith, ints)
mul-nonpos-nonpos (pos (suc m)) b h k = absurd (omega (arith, ints))
mul-nonpos-nonpos (negsuc m) (pos zero) h k = omega (arith, ints)
mul-nonpos-nonpos (negsuc m) (pos (suc n)) h k = absurd (omega (arith, ints))
mul-nonpos-nonpos (negsuc m) (negsuc n) h k = omega (arith, ints)

-- the sign of one factor, from the sign of the rest of a sum that is 0
pub rest-nonneg : (r t s : ℤ) → pos 0 <ℤ r → pos 0 ≤ℤ s → (r *ℤ t) +ℤ s ≡ pos 0 → t ≤ℤ pos 0
rest-nonneg r t s h k e = elim (sign t) [
  | inl less ↦ omega (arith, ints)
  | inr (inl same) ↦ omega (arith, ints)
  | inr (inr more) ↦ absurd (omega (arith, ints, mul-pos-pos r t h more))
]

pub rest-zero : (r t s : ℤ) → pos 0 <ℤ r → s ≡ pos 0 → (r *ℤ t) +ℤ s ≡ pos 0 → t ≡ pos 0
rest-zero r t s h k e = mul-zero r t h (omega (arith, ints))

-- of two products that are at least 0 and add up to 0
both_zero : (r s t u : ℤ) → pos 0 <ℤ r → pos 0 <ℤ t → pos 0 ≤ℤ s → pos 0 ≤ℤ u → (r *ℤ s) +ℤ (t *ℤ u) ≡ pos 0 → (s ≡ pos 0) × (u ≡ pos 0)
both_zero r s t u hr ht hs hu e =
    let first = mul-nonneg-nonneg r s (omega (arith, ints)) hs in
    let second = mul-nonneg-nonneg t u (omega (arith, ints)) hu in
    (mul-zero r s hr (omega (arith, ints)), mul-zero t u ht (omega (arith, ints)))

pub kept-turn : (heading : Heading) (p b c : Point) → IsKept heading p b c → pos 0 ≤ℤ turn p b c
kept-turn heading p b c (inl h) = omega (arith, ints)
kept-turn heading p b c (inr h) = omega (arith, ints)

-- from p on, with d, b and c ahead
kept_signs : (rb rc rd t u v : ℤ) → pos 0 <ℤ rb → pos 0 <ℤ rc → pos 0 <ℤ rd → pos 0 ≤ℤ t → pos 0 ≤ℤ u → (rc *ℤ t) +ℤ ((rd *ℤ u) +ℤ (rb *ℤ v)) ≡ pos 0 → (v <ℤ pos 0) ⊎ ((v ≡ pos 0) × ((t ≡ pos 0) × (u ≡ pos 0)))
kept_signs rb rc rd t u v hb hc hd ht hu e =
    let sum : (rb *ℤ v) +ℤ ((rc *ℤ t) +ℤ (rd *ℤ u)) ≡ pos 0 = omega (arith, ints) in
    let first = mul-nonneg-nonneg rc t (omega (arith, ints)) ht in
    let second = mul-nonneg-nonneg rd u (omega (arith, ints)) hu in
    let low : v ≤ℤ pos 0 = rest-nonneg rb v ((rc *ℤ t) +ℤ (rd *ℤ u)) hb (omega (arith, ints)) sum in
    elim (sign v) [
      | inl less ↦ inl less
      | inr (inl same) ↦ inr (same, both_zero rc t rd u hc hd ht hu (let z : rb *ℤ v ≡ pos 0 = rw same (omega (arith, ints)) in omega (arith, ints)))
      | inr (inr more) ↦ absurd (omega (arith, ints))
    ]

pub kept_through : (heading : Heading) (p d b c : Point) → HasCoordinates p → HasCoordinates d → HasCoordinates b → HasCoordinates c → IsAhead heading p d → IsAhead heading p b → IsAhead heading p c → IsKept heading p d b → IsKept heading p b c → IsKept heading p d c
kept_through heading p d b c sp sd sb sc ad ab ac first second =
    let hd = ahead-toward heading p d sp sd ad in
    let hb = ahead-toward heading p b sp sb ab in
    let hc = ahead-toward heading p c sp sc ac in
    let back = turn-exchange p c d in
    elim (kept_signs (toward heading p b) (toward heading p c) (toward heading p d) (turn p d b) (turn p b c) (turn p c d) hb hc hd (kept-turn heading p d b first) (kept-turn heading p b c second) (by_toward heading p d b c)) [
      | inl less ↦ inl (omega (arith, ints))
      | inr zeros ↦ inr (omega (arith, ints), later first second zeros.1.0 zeros.1.1)
    ]
  where
    later : IsKept heading p d b → IsKept heading p b c → turn p d b ≡ pos 0 → turn p b c ≡ pos 0 → IsAhead heading c d → ⊥
    later (inl h) k e f a = absurd (omega (arith, ints))
    later (inr h) (inl k) e f a = absurd (omega (arith, ints))
    later (inr h) (inr k) e f a = absurd (omega (arith, ints, ahead-toward heading c d sc sd a, not_ahead-toward heading c b sc sb k.1, not_ahead-toward heading b d sb sd h.1, toward-add heading c b d))

-- one of two points is no better than the other
pub kept-back : (heading : Heading) (p b d : Point) → HasCoordinates b → HasCoordinates d → (IsKept heading p b d → ⊥) → IsKept heading p d b
kept-back heading p b d sb sd better =
    let back = turn-exchange p b d in
    elim (sign (turn p b d)) [
      | inl less ↦ inl (omega (arith, ints))
      | inr (inl same) ↦ inr (omega (arith, ints), λ h. better (inr (same, λ k. absurd (omega (arith, ints, ahead-toward heading b d sb sd h, ahead-toward heading d b sd sb k, toward-back heading b d)))))
      | inr (inr more) ↦ absurd (better (inl more))
    ]

-- past q and p, on whose left all lies, each point not ahead of p is on the left of p and each point ahead
pub behind : (heading : Heading) (q p b c : Point) → pos 0 <ℤ toward heading q p → pos 0 ≤ℤ toward heading p b → toward heading p c ≤ℤ pos 0 → pos 0 ≤ℤ turn q p b → pos 0 ≤ℤ turn q p c → pos 0 ≤ℤ turn p b c
behind heading q p b c hq hb hc tb tc =
    let away = toward-back heading q p in
    let right = turn-rotate q p c in
    let left = turn-rotate q p b in
    let exchange = turn-exchange p b q in
    let first = mul-nonneg-nonneg (toward heading p b) (turn p c q) hb (omega (arith, ints)) in
    let second = mul-nonpos-nonpos (toward heading p c) (turn p q b) hc (omega (arith, ints)) in
    let sum = by_toward heading p b c q in
    elim (sign (turn p b c)) [
      | inl less ↦ absurd (omega (arith, ints, mul-neg-neg (toward heading p q) (turn p b c) (omega (arith, ints)) less))
      | inr (inl same) ↦ omega (arith, ints)
      | inr (inr more) ↦ omega (arith, ints)
    ]

-- where the ways of a b and c d overlap, c is not on the left of a b
pub overlap : (heading : Heading) (a b c d : Point) → pos 0 ≤ℤ toward heading a c → pos 0 ≤ℤ toward heading c b → pos 0 <ℤ toward heading c d → pos 0 ≤ℤ turn c d a → pos 0 ≤ℤ turn c d b → turn a b c ≤ℤ pos 0
overlap heading a b c d ha hb hd ta tb =
    let back = toward-back heading a c in
    let exchange = turn-exchange c b d in
    let rotate = turn-rotate c a b in
    let first = mul-nonpos-nonpos (toward heading c a) (turn c b d) (omega (arith, ints)) (omega (arith, ints)) in
    let second = mul-nonneg-nonneg (toward heading c b) (turn c d a) hb ta in
    let low = rest-nonneg (toward heading c d) (turn c a b) ((toward heading c a *ℤ turn c b d) +ℤ (toward heading c b *ℤ turn c d a)) hd (omega (arith, ints)) (by_toward heading c a b d) in
    omega (arith, ints)
