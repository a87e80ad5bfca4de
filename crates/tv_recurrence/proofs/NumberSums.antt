-- Sums g 0 + .. + g (n - 1) of natural numbers.
--
-- total_below-zero   terms that are 0 have the sum 0; total_below-front, the first term apart
-- total_below-add    the sum of two sums
use Rattle.std.specs.Prelude.{◌≡◌, ℕ, zero, suc, ◌+◌, ◌<◌}
use Rattle.std.proofs.Common.{arith}
use Rattle.tv_ring.specs.Sums.{total_below}
use Rattle.tv_ring.proofs.Sums.{total_below-none, total_below-more}

pub total_below-zero : (g : ℕ → ℕ) (n : ℕ) → ((k : ℕ) → k < n → g k ≡ 0) → total_below g n ≡ 0
total_below-zero g zero zeros = total_below-none g
total_below-zero g (suc n) zeros =
    omega (arith, total_below-more g n, total_below-zero g n (λ k h. zeros k (omega arith)), zeros n (omega arith))

pub total_below-front : (g : ℕ → ℕ) (n : ℕ) → total_below g (suc n) ≡ g 0 + total_below (λ k. g (suc k)) n
total_below-front g zero = omega (arith, total_below-more g 0, total_below-none g, total_below-none (λ k. g (suc k)))
total_below-front g (suc n) =
    omega (arith, total_below-more g (suc n), total_below-front g n, total_below-more (λ k. g (suc k)) n)

pub total_below-add : (g h : ℕ → ℕ) (n : ℕ) → total_below (λ k. g k + h k) n ≡ total_below g n + total_below h n
total_below-add g h zero = omega (arith, total_below-none (λ k. g k + h k), total_below-none g, total_below-none h)
total_below-add g h (suc n) =
    omega (arith, total_below-more (λ k. g k + h k) n, total_below-more g n, total_below-more h n, total_below-add g h n)
