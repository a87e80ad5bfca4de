-- The best next point among the first n, one point further.
use Rattle.std.specs.Prelude.{◌≡◌, ℕ, ◌+◌, ◌<◌, ◌⊎◌, List, Option, Some, None}
use Rattle.std.specs.List.{AllByRecursion}
use Rattle.std.proofs.Common.{subst, sym, arith, inl, inr}
use Rattle.std.proofs.lemmas.Int.{ints}
use Rattle.tv_hull.specs.declared.order.Heading.{Heading}
use Rattle.tv_lattice.specs.Limits.{HasCoordinates}
use Rattle.tv_spec_plane.specs.Plane.{Point, at}
use Rattle.tv_hull.specs.Ways.{IsAhead, IsKept, IsBest, IsBestOf}
use Rattle.tv_spec_plane.proofs.Turns.{turn-first, turn-rotate}
use Rattle.tv_hull.proofs.Rises.{toward-same}
use Rattle.tv_hull.proofs.Compare.{small-at, ahead-toward}
use Rattle.tv_hull.proofs.HalfPlane.{kept_through, kept-back}

-- of the numbers below n + 1
pub below_or_last : (k n : ℕ) → k < n + 1 → (k < n) ⊎ (k ≡ n)
below_or_last k n h = grind arith

not_ahead_of_itself : (heading : Heading) (p : Point) → HasCoordinates p → IsAhead heading p p → ⊥
not_ahead_of_itself heading p small h = omega (arith, ints, ahead-toward heading p p small small h, toward-same heading p)

kept_itself : (heading : Heading) (p b : Point) → HasCoordinates b → IsKept heading p b b
kept_itself heading p b small = inr (omega (arith, ints, turn-rotate p b b, turn-first b p), not_ahead_of_itself heading b small)

pub best-stays : (ps : List Point) (heading : Heading) (p n b : ℕ) → IsBest ps heading p n b → IsKept heading (at ps p) (at ps b) (at ps n) → IsBest ps heading p (n + 1) b
best-stays ps heading p n b best last = record {
  below = omega (arith, best.below);
  ahead = best.ahead;
  kept = λ k h a. elim (below_or_last k n h) [
    | inl less ↦ best.kept k less a
    | inr same ↦ subst (λ (m : ℕ). IsKept heading (at ps p) (at ps b) (at ps m)) (sym same) last
  ];
}

pub best-changes : (ps : List Point) (heading : Heading) (p n b : ℕ) → AllByRecursion HasCoordinates ps → IsBest ps heading p n b → IsAhead heading (at ps p) (at ps n) → (IsKept heading (at ps p) (at ps b) (at ps n) → ⊥) → IsBest ps heading p (n + 1) n
best-changes ps heading p n b small best ahead better = record {
  below = omega arith;
  ahead = ahead;
  kept = λ k h a. elim (below_or_last k n h) [
    | inl less ↦ kept_through heading (at ps p) (at ps n) (at ps b) (at ps k) (small-at ps p small) (small-at ps n small) (small-at ps b small) (small-at ps k small) ahead best.ahead a (kept-back heading (at ps p) (at ps b) (at ps n) (small-at ps b small) (small-at ps n small) better) (best.kept k less a)
    | inr same ↦ subst (λ (m : ℕ). IsKept heading (at ps p) (at ps n) (at ps m)) (sym same) (kept_itself heading (at ps p) (at ps n) (small-at ps n small))
  ];
}

pub best-first : (ps : List Point) (heading : Heading) (p n : ℕ) → AllByRecursion HasCoordinates ps → IsBestOf ps heading p n None → IsAhead heading (at ps p) (at ps n) → IsBest ps heading p (n + 1) n
best-first ps heading p n small none ahead = record {
  below = omega arith;
  ahead = ahead;
  kept = λ k h a. elim (below_or_last k n h) [
    | inl less ↦ absurd (none k less a)
    | inr same ↦ subst (λ (m : ℕ). IsKept heading (at ps p) (at ps n) (at ps m)) (sym same) (kept_itself heading (at ps p) (at ps n) (small-at ps n small))
  ];
}

pub best-skips : (ps : List Point) (heading : Heading) (p n : ℕ) (best : Option ℕ) → IsBestOf ps heading p n best → (IsAhead heading (at ps p) (at ps n) → ⊥) → IsBestOf ps heading p (n + 1) best
best-skips ps heading p n None none behind = λ k h a. elim (below_or_last k n h) [
  | inl less ↦ none k less a
  | inr same ↦ behind (subst (λ (m : ℕ). IsAhead heading (at ps p) (at ps m)) same a)
]
best-skips ps heading p n (Some b) best behind = record {
  below = omega (arith, best.below);
  ahead = best.ahead;
  kept = λ k h a. elim (below_or_last k n h) [
    | inl less ↦ best.kept k less a
    | inr same ↦ absurd (behind (subst (λ (m : ℕ). IsAhead heading (at ps p) (at ps m)) same a))
  ];
}
