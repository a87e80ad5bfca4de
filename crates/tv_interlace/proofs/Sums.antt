-- Sums over the first numbers, as they are added up: what is added and what is left make the whole.
use Rattle.std.proofs.Common.{◌≡◌, ℕ, ◌+◌, ◌-◌, ◌<◌, ap, arith}
use Rattle.std.specs.List.{range_with_len}
use Rattle.tv_lemmas.specs.Sums.{sum_of}
use Rattle.tv_cells.proofs.Diagonals.{numbers-next, numbers-none}

pub sum-next : (f : ℕ → ℕ) (k n now before whole : ℕ) → k < n → now ≡ before + f k → before + sum_of f (range_with_len k (n - k)) ≡ whole → now + sum_of f (range_with_len (k + 1) (n - (k + 1))) ≡ whole
sum-next f k n now before whole l e far =
    let split : sum_of f (range_with_len k (n - k)) ≡ f k + sum_of f (range_with_len (k + 1) (n - (k + 1))) = ap (sum_of f) (numbers-next k n l) in
    omega arith

pub sum-done : (f : ℕ → ℕ) (k n now whole : ℕ) → n ≡ k → now + sum_of f (range_with_len k (n - k)) ≡ whole → now ≡ whole
sum-done f k n now whole e far =
    let none : sum_of f (range_with_len k (n - k)) ≡ 0 = rw e (ap (sum_of f) (numbers-none k)) in
    omega arith
