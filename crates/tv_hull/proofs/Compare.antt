-- For small coordinates the order by x, then y, is the sign of rise.
use Rattle.std.specs.Prelude.{◌≡◌, ℕ, zero, suc, ℤ, pos, ◌-ℤ◌, ◌≤ℤ◌, ◌<ℤ◌, ◌⊎◌, List, [], ◌∷◌}
use Rattle.std.specs.List.{AllByRecursion}
use Rattle.std.proofs.Common.{ap, ◌∙◌, arith, inl, inr}
use Rattle.std.proofs.lemmas.Int.{ints}
use Rattle.tv_hull.specs.declared.order.Heading.{Heading}
use Rattle.tv_hull.specs.declared.order.Heading.TheVariants.{Up, Down}
use Rattle.tv_lattice.specs.Limits.{HasCoordinates}
use Rattle.tv_spec_plane.specs.Plane.{Point, at}
use Rattle.tv_laws_tiling.specs.Hull.{IsLess}
use Rattle.tv_lemmas.proofs.Signs.{sign}
use Rattle.tv_hull.specs.Ways.{IsAhead}
use Rattle.tv_hull.proofs.Rises.{rise, toward}

-- each point of the list is small, and the origin past its end
pub small-at : (ps : List Point) (k : ℕ) → AllByRecursion HasCoordinates ps → HasCoordinates (at ps k)
small-at [] k all = (omega arith, omega arith)
small-at (p ∷ ps) zero all = all.0
small-at (p ∷ ps) (suc k) all = small-at ps k all.1

less-rises : (p q : Point) → HasCoordinates p → HasCoordinates q → IsLess p q → pos 0 <ℤ rise p q
unfolding rise
less-rises p q small_p small_q (inl h) = omega (arith, ints)
less-rises p q small_p small_q (inr h) = omega (arith, ints)

rises-less_at : (p q : Point) → HasCoordinates p → HasCoordinates q → pos 0 <ℤ rise p q → ((q.x -ℤ p.x) <ℤ pos 0) ⊎ (((q.x -ℤ p.x) ≡ pos 0) ⊎ (pos 0 <ℤ (q.x -ℤ p.x))) → IsLess p q
unfolding rise
rises-less_at p q small_p small_q h (inl less) = absurd (omega (arith, ints))
rises-less_at p q small_p small_q h (inr (inl same)) = inr (omega (arith, ints), omega (arith, ints))
rises-less_at p q small_p small_q h (inr (inr more)) = inl (omega (arith, ints))

rises-less : (p q : Point) → HasCoordinates p → HasCoordinates q → pos 0 <ℤ rise p q → IsLess p q
rises-less p q small_p small_q h = rises-less_at p q small_p small_q h (sign (q.x -ℤ p.x))

same_point : (p q : Point) → p.x ≡ q.x → p.y ≡ q.y → p ≡ q
same_point p q ex ey =
    let first : ◌≡◌ {A = Point} (record { x = p.x; y = p.y }) (record { x = q.x; y = p.y }) = ap (λ (x : ℤ). let r : Point = record { x = x; y = p.y } in r) ex in
    let second : ◌≡◌ {A = Point} (record { x = q.x; y = p.y }) (record { x = q.x; y = q.y }) = ap (λ (y : ℤ). let r : Point = record { x = q.x; y = y } in r) ey in
    first ∙ second

level-same_at : (p q : Point) → HasCoordinates p → HasCoordinates q → rise p q ≡ pos 0 → ((q.x -ℤ p.x) <ℤ pos 0) ⊎ (((q.x -ℤ p.x) ≡ pos 0) ⊎ (pos 0 <ℤ (q.x -ℤ p.x))) → p ≡ q
unfolding rise
level-same_at p q small_p small_q h (inl less) = absurd (omega (arith, ints))
level-same_at p q small_p small_q h (inr (inl same)) = same_point p q (omega (arith, ints)) (omega (arith, ints))
level-same_at p q small_p small_q h (inr (inr more)) = absurd (omega (arith, ints))

level-same : (p q : Point) → HasCoordinates p → HasCoordinates q → rise p q ≡ pos 0 → p ≡ q
level-same p q small_p small_q h = level-same_at p q small_p small_q h (sign (q.x -ℤ p.x))

pub ahead-toward : (heading : Heading) (p q : Point) → HasCoordinates p → HasCoordinates q → IsAhead heading p q → pos 0 <ℤ toward heading p q
unfolding toward
ahead-toward Up p q small_p small_q h = less-rises p q small_p small_q h
ahead-toward Down p q small_p small_q h = less-rises q p small_q small_p h

pub toward-ahead : (heading : Heading) (p q : Point) → HasCoordinates p → HasCoordinates q → pos 0 <ℤ toward heading p q → IsAhead heading p q
unfolding toward
toward-ahead Up p q small_p small_q h = rises-less p q small_p small_q h
toward-ahead Down p q small_p small_q h = rises-less q p small_q small_p h

pub toward-level : (heading : Heading) (p q : Point) → HasCoordinates p → HasCoordinates q → toward heading p q ≡ pos 0 → p ≡ q
unfolding toward rise
toward-level Up p q small_p small_q h = level-same p q small_p small_q h
toward-level Down p q small_p small_q h = level-same p q small_p small_q (omega (arith, ints))

pub not_ahead-toward : (heading : Heading) (p q : Point) → HasCoordinates p → HasCoordinates q → (IsAhead heading p q → ⊥) → toward heading p q ≤ℤ pos 0
not_ahead-toward heading p q small_p small_q behind = elim (sign (toward heading p q)) [
  | inl less ↦ omega (arith, ints)
  | inr (inl same) ↦ omega (arith, ints)
  | inr (inr more) ↦ absurd (behind (toward-ahead heading p q small_p small_q more))
]

-- either q is ahead of p, or it is not
pub ahead_or_not : (heading : Heading) (p q : Point) → HasCoordinates p → HasCoordinates q → IsAhead heading p q ⊎ (IsAhead heading p q → ⊥)
ahead_or_not heading p q small_p small_q = elim (sign (toward heading p q)) [
  | inl less ↦ inr (λ h. absurd (omega (arith, ints, ahead-toward heading p q small_p small_q h)))
  | inr (inl same) ↦ inr (λ h. absurd (omega (arith, ints, ahead-toward heading p q small_p small_q h)))
  | inr (inr more) ↦ inl (toward-ahead heading p q small_p small_q more)
]
