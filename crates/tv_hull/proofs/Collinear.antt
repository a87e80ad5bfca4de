-- Points on the line of two distinct ones: any three of them have the turn 0.
use Rattle.std.specs.Prelude.{◌≡◌, ◌≢◌, ℕ, ◌<◌, ◌≤◌, pos, ◌+ℤ◌, ◌*ℤ◌, ◌⊎◌, List, length}
use Rattle.std.specs.List.{AllByRecursion}
use Rattle.std.proofs.Common.{arith, inl, inr}
use Rattle.std.proofs.lemmas.Int.{ints}
use Rattle.tv_hull.specs.declared.order.Heading.TheVariants.{Up}
use Rattle.tv_lattice.specs.Limits.{HasCoordinates}
use Rattle.tv_spec_plane.specs.Plane.{Point, at, turn}
use Rattle.tv_lemmas.proofs.Signs.{factor-zero}
use Rattle.tv_laws_tiling.specs.Points.{AreDistinct, IsFlat}
use Rattle.tv_spec_plane.proofs.Turns.{turn-exchange, turn-first, turn-return}
use Rattle.tv_hull.proofs.Rises.{toward, by_toward, turn-from}
use Rattle.tv_hull.proofs.Compare.{small-at, toward-level}

-- from a on, with b another point of the line
line_of_two : (a b c d : Point) → HasCoordinates a → HasCoordinates b → a ≢ b → turn a b c ≡ pos 0 → turn a b d ≡ pos 0 → turn a c d ≡ pos 0
line_of_two a b c d sa sb apart hc hd =
    let level : toward Up a b ≢ pos 0 = λ e. apart (toward-level Up a b sa sb e) in
    let back : turn a d b ≡ pos 0 = omega (arith, ints, turn-exchange a b d) in
    let sum : (toward Up a b *ℤ turn a c d) +ℤ ((toward Up a c *ℤ turn a d b) +ℤ (toward Up a d *ℤ turn a b c)) ≡ pos 0 = by_toward Up a c d b in
    let rest = rw (back, hc) at sum in
    factor-zero (turn a c d) (toward Up a b) (omega (arith, ints)) level

line_of_three : (a b c d e : Point) → HasCoordinates a → HasCoordinates b → a ≢ b → turn a b c ≡ pos 0 → turn a b d ≡ pos 0 → turn a b e ≡ pos 0 → turn c d e ≡ pos 0
line_of_three a b c d e sa sb apart hc hd he =
    omega (arith, ints, turn-from a c d e, line_of_two a b c d sa sb apart hc hd, line_of_two a b d e sa sb apart hd he, line_of_two a b e c sa sb apart he hc)

lone : (n i : ℕ) → n ≤ 1 → i < n → i ≡ 0
lone n i h k = omega arith

turn-same : (p : Point) → turn p p p ≡ pos 0
turn-same p = turn-first p p

flat-few : (ps : List Point) → length ps ≤ 1 → IsFlat ps
flat-few ps few i j k hi hj hk =
    rw (lone (length ps) i few hi, lone (length ps) j few hj, lone (length ps) k few hk) (turn-same (at ps 0))

flat-many : (ps : List Point) → AllByRecursion HasCoordinates ps → AreDistinct ps → 1 < length ps → ((k : ℕ) → k < length ps → turn (at ps 0) (at ps 1) (at ps k) ≡ pos 0) → IsFlat ps
flat-many ps small distinct many line i j k hi hj hk =
    line_of_three (at ps 0) (at ps 1) (at ps i) (at ps j) (at ps k) (small-at ps 0 small) (small-at ps 1 small) (λ e. let z : ◌≡◌ {A = ℕ} 0 1 = distinct 0 1 (omega arith) (omega arith) e in omega arith) (line i hi) (line j hj) (line k hk)

few_or_many : (n : ℕ) → (n ≤ 1) ⊎ (1 < n)
few_or_many n = grind arith

pub flat-line : (ps : List Point) → AllByRecursion HasCoordinates ps → AreDistinct ps → ((k : ℕ) → k < length ps → turn (at ps 0) (at ps 1) (at ps k) ≡ pos 0) → IsFlat ps
flat-line ps small distinct line = elim (few_or_many (length ps)) [
  | inl few ↦ flat-few ps few
  | inr many ↦ flat-many ps small distinct many line
]

turn-outside : (ps : List Point) (k : ℕ) → length ps ≤ 1 → k < length ps → turn (at ps 0) (at ps 1) (at ps k) ≡ pos 0
turn-outside ps k few h = rw (lone (length ps) k few h) (turn-return (at ps 0) (at ps 1))

pub line-flat : (ps : List Point) (k : ℕ) → IsFlat ps → k < length ps → turn (at ps 0) (at ps 1) (at ps k) ≡ pos 0
line-flat ps k flat h = elim (few_or_many (length ps)) [
  | inl few ↦ turn-outside ps k few h
  | inr many ↦ flat 0 1 k (omega arith) (omega arith) h
]
