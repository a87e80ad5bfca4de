-- What holds of pairs while the first of them is searched.
use Rattle.std.specs.Prelude.{ℕ, ◌<◌}

-- P holds of no pair whose first number is below n
abbrev pub NoneBelow : (ℕ → ℕ → Type 0) → ℕ → Type 0
NoneBelow P n = (k l : ℕ) → k < n → P k l → ⊥
