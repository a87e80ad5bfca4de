-- The least point among the first n, one point further.
use Rattle.std.specs.Prelude.{◌≡◌, ℕ, ◌+◌, ◌<◌, ◌≤◌, List, length}
use Rattle.std.proofs.Common.{subst, ◌∙◌, arith, inl, inr}
use Rattle.std.proofs.lemmas.Int.{ints}
use Rattle.tv_spec_plane.specs.Plane.{Point, at}
use Rattle.tv_laws_tiling.specs.Hull.{IsLess, IsLeast}
use Rattle.tv_hull.proofs.Best.{below_or_last}

pub less_through : (p q r : Point) → IsLess p q → IsLess q r → IsLess p r
less_through p q r (inl h) (inl k) = inl (omega (arith, ints))
less_through p q r (inl h) (inr k) = inl (omega (arith, ints, k.0))
less_through p q r (inr h) (inl k) = inl (omega (arith, ints, h.0))
less_through p q r (inr h) (inr k) = inr (h.0 ∙ k.0, omega (arith, ints, h.1, k.1))

not_less_itself : (p : Point) → IsLess p p → ⊥
not_less_itself p (inl h) = omega (arith, ints)
not_less_itself p (inr h) = omega (arith, ints, h.1)

abbrev pub IsLeastOf : List Point → ℕ → ℕ → Type 0
IsLeastOf ps n a = (a < length ps) × ((k : ℕ) → k < n → IsLess (at ps k) (at ps a) → ⊥)

pub least-stays : (ps : List Point) (n a : ℕ) → IsLeastOf ps n a → (IsLess (at ps n) (at ps a) → ⊥) → IsLeastOf ps (n + 1) a
least-stays ps n a least last = (
  least.0,
  λ k h less. elim (below_or_last k n h) [
    | inl below ↦ least.1 k below less
    | inr same ↦ last (subst (λ (m : ℕ). IsLess (at ps m) (at ps a)) same less)
  ],
)

pub least-changes : (ps : List Point) (n a : ℕ) → n < length ps → IsLeastOf ps n a → IsLess (at ps n) (at ps a) → IsLeastOf ps (n + 1) n
least-changes ps n a listed least last = (
  listed,
  λ k h less. elim (below_or_last k n h) [
    | inl below ↦ least.1 k below (less_through (at ps k) (at ps n) (at ps a) less last)
    | inr same ↦ not_less_itself (at ps n) (subst (λ (m : ℕ). IsLess (at ps m) (at ps n)) same less)
  ],
)

pub least-first : (ps : List Point) → 0 < length ps → IsLeastOf ps 1 0
least-first ps some = (some, λ k h less. let zero : k ≡ 0 = omega arith in not_less_itself (at ps 0) (subst (λ (m : ℕ). IsLess (at ps m) (at ps 0)) zero less))

pub least-all : (ps : List Point) (n a : ℕ) → length ps ≤ n → IsLeastOf ps n a → IsLeast ps a
least-all ps n a whole least = record { listed = least.0; least = λ k h. least.1 k (omega arith) }
