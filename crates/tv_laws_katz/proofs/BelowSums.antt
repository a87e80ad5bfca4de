-- Sums f 0 + f 1 + .. + f (n - 1) of whole numbers.
--
-- sum_below-same    equal terms make equal sums; sum_below-none, terms that are 0 the sum 0
-- sum_below-add     the sum of two sums; sum_below-scale, a factor in front
-- sum_below-front   the first term apart
-- sum_below-longer  terms that are 0 from n on change nothing; sum_below-last, where the last one is;
--                   sum_below-first, where only the first term is left
-- sum_below-swap    two sums may be exchanged
use Rattle.std.specs.Prelude.{◌≡◌, ℕ, zero, suc, ◌+◌, ◌-◌, ◌<◌, ◌≤◌, ℤ, pos, ◌+ℤ◌, ◌*ℤ◌}
use Rattle.std.proofs.Common.{refl, ap, arith, ◌∙◌}
use Rattle.std.proofs.Math.IntN.{*ℤ-zero}
use Rattle.std.proofs.lemmas.Int.{ints}
use Rattle.tv_lemmas.proofs.Integers.{mul-add}
use Rattle.tv_spec_katz.specs.Binomials.{sum_below}

pub sum_below-same : (f g : ℕ → ℤ) (n : ℕ) → ((k : ℕ) → k < n → f k ≡ g k) → sum_below f n ≡ sum_below g n
unfolding sum_below
sum_below-same f g zero same = refl
sum_below-same f g (suc n) same = omega (arith, ints, sum_below-same f g n (λ k h. same k (omega arith)), same n (omega arith))

pub sum_below-none : (f : ℕ → ℤ) (n : ℕ) → ((k : ℕ) → k < n → f k ≡ pos 0) → sum_below f n ≡ pos 0
unfolding sum_below
sum_below-none f zero none = refl
sum_below-none f (suc n) none = omega (arith, ints, sum_below-none f n (λ k h. none k (omega arith)), none n (omega arith))

pub sum_below-add : (f g : ℕ → ℤ) (n : ℕ) → sum_below (λ k. f k +ℤ g k) n ≡ sum_below f n +ℤ sum_below g n
unfolding sum_below
sum_below-add f g zero = omega (arith, ints)
sum_below-add f g (suc n) = omega (arith, ints, sum_below-add f g n)

pub sum_below-scale : (c : ℤ) (f : ℕ → ℤ) (n : ℕ) → c *ℤ sum_below f n ≡ sum_below (λ k. c *ℤ f k) n
unfolding sum_below
sum_below-scale c f zero = *ℤ-zero c
sum_below-scale c f (suc n) = mul-add c (sum_below f n) (f n) ∙ ap (λ s. s +ℤ (c *ℤ f n)) (sum_below-scale c f n)

pub sum_below-front : (f : ℕ → ℤ) (n : ℕ) → sum_below f (suc n) ≡ f 0 +ℤ sum_below (λ k. f (suc k)) n
unfolding sum_below
sum_below-front f zero = omega (arith, ints)
sum_below-front f (suc n) = omega (arith, ints, sum_below-front f n)

longer_by : (f : ℕ → ℤ) (n d m : ℕ) → m ≡ n + d → ((k : ℕ) → n ≤ k → k < m → f k ≡ pos 0) → sum_below f m ≡ sum_below f n
unfolding sum_below
longer_by f n zero m e none = let same : m ≡ n = omega (arith, e) in ap (sum_below f) same
longer_by f n (suc d) zero e none = absurd (omega (arith, e))
longer_by f n (suc d) (suc m) e none =
    omega (arith, ints, longer_by f n d m (omega arith) (λ k l h. none k l (omega arith)), none m (omega arith) (omega arith))

pub sum_below-longer : (f : ℕ → ℤ) (n m : ℕ) → n ≤ m → ((k : ℕ) → n ≤ k → k < m → f k ≡ pos 0) → sum_below f m ≡ sum_below f n
sum_below-longer f n m h none = longer_by f n (m - n) m (omega arith) none

pub sum_below-last : (f : ℕ → ℤ) (n : ℕ) → f n ≡ pos 0 → sum_below f (suc n) ≡ sum_below f n
unfolding sum_below
sum_below-last f n none = omega (arith, ints, none)

pub sum_below-first : (f : ℕ → ℤ) (n : ℕ) → ((k : ℕ) → k < n → f (suc k) ≡ pos 0) → sum_below f (suc n) ≡ f 0
sum_below-first f n none = omega (arith, ints, sum_below-front f n, sum_below-none (λ k. f (suc k)) n none)

pub sum_below-swap : (f : ℕ → ℕ → ℤ) (m n : ℕ) →
    sum_below (λ j. sum_below (f j) n) m ≡ sum_below (λ k. sum_below (λ j. f j k) m) n
unfolding sum_below
sum_below-swap f zero n = omega (arith, ints, sum_below-none (λ k. pos 0) n (λ k h. refl))
sum_below-swap f (suc m) n = ap (λ s. s +ℤ sum_below (f m) n) (sum_below-swap f m n) ∙
    omega (arith, ints, sum_below-add (λ k. sum_below (λ j. f j k) m) (f m) n)
