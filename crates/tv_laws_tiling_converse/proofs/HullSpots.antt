-- Spots in the hull: those on the near side of a segment of listed points, and those on its far side where a listed
-- point is beyond.
use Rattle.std.specs.Prelude.{◌≡◌, ◌≢◌, ℕ, ◌<◌, ℤ, pos, ◌+ℤ◌, ◌*ℤ◌, neg_ℤ, ◌≤ℤ◌, ◌<ℤ◌, List, length}
use Rattle.std.proofs.Common.{sym, ◌∙◌, arith, inl, inr}
use Rattle.std.proofs.lemmas.Int.{ints}
use Rattle.tv_spec_plane.specs.Plane.{Point, at, turn, Segment}
use Rattle.tv_spec_plane.specs.Tiling.{IsInHull}
use Rattle.tv_spec_plane.proofs.Turns.{turn-return}
use Rattle.tv_lemmas.proofs.Signs.{nonneg-positive, sign, mul-neg-pos}
use Rattle.tv_laws_tiling.specs.Points.{AreSmall}
use Rattle.tv_laws_tiling.proofs.Heights.{at-small}
use Rattle.tv_laws_tiling.proofs.Turns.{turn-spread, turn-flat}
use Rattle.tv_laws_tiling.proofs.Sides.{IsThird}
use Rattle.tv_laws_tiling_converse.proofs.Spots.{spot, Leads, IsPlace, small-near, mirror, mirror-near, turn-mirror, leads-spot}

lead-hull_zero : (a b c k u v w : ℤ) → k ≡ (u *ℤ a) +ℤ ((v *ℤ b) +ℤ (w *ℤ c)) → pos 0 ≤ℤ c → pos 0 ≤ℤ k → w <ℤ pos 0 → a ≡ pos 0 → b ≡ pos 0 → c ≡ pos 0
lead-hull_zero a b c k u v w e hc hk hw ea eb =
    let f = rw (ea, eb) at e in
    elim (sign c) [
      | inl less ↦ absurd (omega (arith, ints))
      | inr (inl same) ↦ same
      | inr (inr more) ↦ absurd (omega (arith, ints, f, mul-neg-pos w c hw more))
    ]

lead-two : (a b c : ℤ) → pos 0 ≤ℤ a → pos 0 ≤ℤ b → (a ≡ pos 0 → b ≡ pos 0 → pos 0 <ℤ c) → Leads a b c
lead-two a b c ha hb third = elim (sign a) [
  | inl less ↦ absurd (omega (arith, ints))
  | inr (inl same) ↦ inr (
    same,
    elim (sign b) [
      | inl less ↦ absurd (omega (arith, ints))
      | inr (inl none) ↦ inr (none, third same none)
      | inr (inr more) ↦ inl more
    ],
  )
  | inr (inr more) ↦ inl more
]

module _ (ps : List Point) (small : AreSmall ps) where
  pub place-third : (s : Segment) (c : ℕ) → IsPlace (at ps s.0) (at ps s.1) (at ps c)
  place-third s c = record { first = at-small ps small s.0; second = at-small ps small s.1; third = small-near (at ps c) (at-small ps small c) }

  pub place-mirror : (s : Segment) (c : ℕ) → IsPlace (at ps s.0) (at ps s.1) (mirror (at ps s.0) (at ps c))
  place-mirror s c = record { first = at-small ps small s.0; second = at-small ps small s.1; third = mirror-near (at ps s.0) (at ps c) (at-small ps small s.0) (at-small ps small c) }

  pub mirror-turn : (s : Segment) (c : ℕ) → IsThird ps s c → turn (at ps s.0) (at ps s.1) (mirror (at ps s.0) (at ps c)) ≡ neg_ℤ (pos 1)
  mirror-turn s c third =
      let e = turn-mirror (at ps s.0) (at ps s.1) (at ps s.0) (at ps c) in
      let f = turn-return (at ps s.0) (at ps s.1) in
      let g = third.turned in
      omega (arith, ints)

  -- the far side of a side with a listed point beyond it is in the hull
  pub mirror-hull : (s : Segment) (c k : ℕ) → IsThird ps s c → k < length ps → turn (at ps s.0) (at ps s.1) (at ps k) <ℤ pos 0 → IsInHull ps (spot (at ps s.0) (at ps s.1) (mirror (at ps s.0) (at ps c)))
  mirror-hull s c k third listed beyond e f pair =
      let a = pair.left s.0 third.first in
      let b = pair.left s.1 third.second in
      let apart : turn (at ps s.0) (at ps s.1) (at ps c) ≢ pos 0 = λ z. let one = third.turned in omega (arith, ints) in
      leads-spot (at ps e) (at ps f) (at ps s.0) (at ps s.1) (mirror (at ps s.0) (at ps c)) (at-small ps small e) (at-small ps small f) (place-mirror s c)
      (lead-two _ _ _ a b (λ ea eb.
      let ec = lead-hull_zero _ _ _ _ _ _ _ (turn-spread (at ps s.0) (at ps s.1) (at ps c) (at ps e) (at ps f) (at ps k) third.turned) (pair.left c third.third) (pair.left k listed) beyond ea eb in
      absurd (pair.apart (turn-flat (at ps s.0) (at ps s.1) (at ps c) (at ps e) (at ps f) apart (eb ∙ sym ea) (ec ∙ sym ea)))))

  -- the near side of a segment of two listed points, towards a third, is in the hull
  pub near-hull : (a b c : ℕ) → a < length ps → b < length ps → c < length ps → turn (at ps a) (at ps b) (at ps c) ≢ pos 0 → IsInHull ps (spot (at ps a) (at ps b) (at ps c))
  near-hull a b c ha hb hc apart e f pair =
      leads-spot (at ps e) (at ps f) (at ps a) (at ps b) (at ps c) (at-small ps small e) (at-small ps small f) (place-third (a, b) c)
      (lead-two _ _ _ (pair.left a ha) (pair.left b hb) (λ ea eb. nonneg-positive _ (pair.left c hc) (λ ec.
      pair.apart (turn-flat (at ps a) (at ps b) (at ps c) (at ps e) (at ps f) apart (eb ∙ sym ea) (ec ∙ sym ea)))))
