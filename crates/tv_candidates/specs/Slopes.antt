-- Where a series begins, below exponent 0.
--
-- StartsAbove c d s == the series s is 0 at exponents below - c * d
-- IsDepth s n       == the series s is 0 at exponents below - n, and, where n is at least 1, not 0 at - n
use Rattle.std.specs.Prelude.{◌≡◌, ◌≢◌, ℕ, ◌<◌, ℤ, pos, neg_ℤ, ◌+ℤ◌, ◌*ℤ◌, ◌<ℤ◌}
use Rattle.tv_ring.specs.Whole.{wholes}
use Rattle.tv_laws_series.specs.Terms.{Terms}
use Rattle.tv_spec_series.specs.Families.{coefficient}

abbrev pub StartsAbove : ℕ → ℤ → Terms ℤ → Type 0
StartsAbove c d s = (n : ℤ) → (n +ℤ (pos c *ℤ d)) <ℤ pos 0 → coefficient wholes s n ≡ pos 0

pub record IsDepth (s : Terms ℤ) (n : ℕ) : Type 0 where
  pub below : (m : ℤ) → m <ℤ neg_ℤ (pos n) → coefficient wholes s m ≡ pos 0
  pub first : 0 < n → coefficient wholes s (neg_ℤ (pos n)) ≢ pos 0
