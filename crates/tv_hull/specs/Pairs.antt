-- The first number, and the first pair of numbers, of which a fact holds.
--
-- IsFirst P i       == P holds of i, and of no lesser number
-- IsFirstPair P i j == P holds of i and j, and of no pair that comes before them by its first, then its second number
use Rattle.std.specs.Prelude.{ℕ, ◌≤◌}

pub record IsFirst (P : ℕ → Type 0) (i : ℕ) : Type 0 where
  pub holds : P i
  pub least : (k : ℕ) → P k → i ≤ k

pub record IsFirstPair (P : ℕ → ℕ → Type 0) (i j : ℕ) : Type 0 where
  pub second : IsFirst (P i) j
  pub first : (k l : ℕ) → P k l → i ≤ k
