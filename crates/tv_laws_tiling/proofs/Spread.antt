-- Where points are not all on one line, three of them are not.
use Rattle.std.proofs.Common.{◌≡◌, ◌≢◌, ℕ, zero, suc, ◌<◌, ℤ, pos, List, length, ◌⊎◌, inl, inr, sym, arith, subst}
use Rattle.std.proofs.lemmas.Int.{ints}
use Rattle.std.proofs.lemmas.Bool.{cases_eq}
use Rattle.tv_lemmas.proofs.Signs.{sign}
use Rattle.tv_spec_plane.specs.Plane.{Point, at, turn}
use Rattle.tv_laws_tiling.specs.Points.{SpansPlane}

-- what holds of each number below n, or some number below n where the other holds
each_or_some : (P Q : ℕ → Type 0) → ((k : ℕ) → P k ⊎ Q k) → (n : ℕ) → ((k : ℕ) → k < n → P k) ⊎ ((k : ℕ) × (k < n) × Q k)
each_or_some P Q decide zero = inl (λ k l. absurd (omega arith))
each_or_some P Q decide (suc n) = elim (each_or_some P Q decide n) [
  | inr some ↦ inr (some.0, omega arith, some.2)
  | inl each ↦ elim (decide n) [
    | inr here ↦ inr (n, omega arith, here)
    | inl here ↦ inl (λ k l. elim (cases_eq k n) [ inl e ↦ subst P (sym e) here | inr ne ↦ each k (omega arith) ])
  ]
]

nought_or_not : (z : ℤ) → (z ≡ pos 0) ⊎ (z ≢ pos 0)
nought_or_not z = elim (sign z) [ inl l ↦ inr (λ e. omega (arith, ints)) | inr (inl e) ↦ inl e | inr (inr g) ↦ inr (λ e. omega (arith, ints)) ]

FlatPair : List Point → ℕ → ℕ → Type 0
FlatPair ps i j = (k : ℕ) → k < length ps → turn (at ps i) (at ps j) (at ps k) ≡ pos 0

SpreadPair : List Point → ℕ → ℕ → Type 0
SpreadPair ps i j = (k : ℕ) × (k < length ps) × (turn (at ps i) (at ps j) (at ps k) ≢ pos 0)

FlatPoint : List Point → ℕ → Type 0
FlatPoint ps i = (j : ℕ) → j < length ps → FlatPair ps i j

SpreadPoint : List Point → ℕ → Type 0
SpreadPoint ps i = (j : ℕ) × (j < length ps) × SpreadPair ps i j

pair : (ps : List Point) (i j : ℕ) → FlatPair ps i j ⊎ SpreadPair ps i j
unfolding FlatPair SpreadPair
pair ps i j = each_or_some (λ k. turn (at ps i) (at ps j) (at ps k) ≡ pos 0) (λ k. turn (at ps i) (at ps j) (at ps k) ≢ pos 0) (λ k. nought_or_not _) (length ps)

point : (ps : List Point) (i : ℕ) → FlatPoint ps i ⊎ SpreadPoint ps i
unfolding FlatPoint SpreadPoint
point ps i = each_or_some (FlatPair ps i) (SpreadPair ps i) (pair ps i) (length ps)

-- three listed points that are not on a line
pub record HasThree (ps : List Point) : Type 0 where
  pub a : ℕ
  pub b : ℕ
  pub c : ℕ
  pub a_listed : a < length ps
  pub b_listed : b < length ps
  pub c_listed : c < length ps
  pub turned : turn (at ps a) (at ps b) (at ps c) ≢ pos 0

pub spans-three : (ps : List Point) → SpansPlane ps → HasThree ps
unfolding FlatPair SpreadPair FlatPoint SpreadPoint
spans-three ps spans = elim (each_or_some (FlatPoint ps) (SpreadPoint ps) (point ps) (length ps)) [
  | inl flat ↦ absurd (spans (λ i j k li lj lk. flat i li j lj k lk))
  | inr some ↦ record { a = some.0; b = some.2.0; c = some.2.2.0; a_listed = some.1; b_listed = some.2.1; c_listed = some.2.2.1; turned = some.2.2.2 }
]
