-- The diagonals by their numbers are those of the cube.
use Rattle.std.proofs.Common.{◌≡◌, ℕ, suc, zero, ◌+◌, ◌-◌, ◌*◌, ◌<◌, List, [], ◌∷◌, ◌++◌, arith, refl, sym, ◌∙◌, ap}
use Rattle.std.specs.Prelude.{ℤ, pos, negsuc, ◌-ℤ◌, nat_abs}
use Rattle.std.specs.List.{flat_map, range_with_len}
use Rattle.std.proofs.lemmas.Int.{ints}
use Rattle.tv_cells.specs.declared.cell.Cell.{Cell}
use Rattle.tv_cells.specs.Cells.{x_from, y_from, diagonal, falling, cube}
use Rattle.tv_cells.specs.Grid.{columns, diagonal_of}

-- the diagonals of the cube of that side from number k on, n of them
abbrev pub diagonals : ℕ → ℕ → ℕ → List Cell
diagonals side k n = flat_map (diagonal_of side) (range_with_len k n)

-- the numbers from k to n - 1 begin with k
pub numbers-next : (k n : ℕ) → k < n → range_with_len k (n - k) ≡ k ∷ range_with_len (k + 1) (n - (k + 1))
numbers-next k n l =
    let more : n - k ≡ suc (n - (k + 1)) = omega arith in
    rw more refl

pub numbers-none : (n : ℕ) → range_with_len n (n - n) ≡ []
numbers-none n = let none : n - n ≡ 0 = omega arith in rw none refl

less_one : (n k : ℕ) → (pos n -ℤ pos k) -ℤ pos 1 ≡ pos n -ℤ pos (k + 1)
less_one n k = omega (arith, ints)

less_none : (n : ℕ) → pos n -ℤ pos 0 ≡ pos n
less_none n = omega (arith, ints)

-- the diagonal of number k, by its x - y
starts : (n k : ℕ) (t : ℤ) → pos n -ℤ pos k ≡ t → (x_from t ≡ (suc n - 1) - k) × (y_from t ≡ k - (suc n - 1)) × (nat_abs t ≡ ((suc n - 1) - k) + (k - (suc n - 1)))
starts n k (pos a) e = let at : n ≡ k + a = omega (arith, ints, e) in (omega arith, omega arith, omega arith)
starts n k (negsuc a) e = let at : k ≡ n + suc a = omega (arith, ints, e) in (omega arith, omega arith, omega arith)

columns_at : (a b p a' b' p' h : ℕ) → a ≡ a' → b ≡ b' → p ≡ p' → columns a b h 0 p ≡ columns a' b' h 0 p'
columns_at a b p a' b' p' h ea eb ep = rw (ea, eb, ep) refl

diagonal_at : (n k : ℕ) → diagonal_of (suc n) k ≡ diagonal (pos n -ℤ pos k) (suc n - nat_abs (pos n -ℤ pos k)) (suc n)
diagonal_at n k =
    let at = starts n k (pos n -ℤ pos k) refl in
    columns_at ((suc n - 1) - k) (k - (suc n - 1)) (suc n - (((suc n - 1) - k) + (k - (suc n - 1)))) (x_from (pos n -ℤ pos k)) (y_from (pos n -ℤ pos k)) (suc n - nat_abs (pos n -ℤ pos k)) (suc n)
    (sym at.0) (sym at.1) (ap (λ v. suc n - v) (sym at.2))

abbrev falling_diagonals : ℕ → ℕ → ℤ → List Cell
falling_diagonals n m t = flat_map (λ t. diagonal t (suc n - nat_abs t) (suc n)) (falling m t)

diagonals_fall : (n m k : ℕ) → diagonals (suc n) k m ≡ falling_diagonals n m (pos n -ℤ pos k)
diagonals_fall n zero k = refl
diagonals_fall n (suc m) k =
    ap (λ ds. ds ++ diagonals (suc n) (k + 1) m) (diagonal_at n k)
    ∙ ap (λ ds. diagonal (pos n -ℤ pos k) (suc n - nat_abs (pos n -ℤ pos k)) (suc n) ++ ds)
    (diagonals_fall n m (k + 1) ∙ ap (falling_diagonals n m) (sym (less_one n k)))

pub cube-diagonals : (side : ℕ) → 0 < side → diagonals side 0 (2 * side - 1) ≡ cube side
unfolding cube
cube-diagonals zero p = absurd (omega arith)
cube-diagonals (suc n) p =
    let all : 2 * suc n - 1 ≡ suc (n + n) = omega arith in
    ap (diagonals (suc n) 0) all ∙ (diagonals_fall n (suc (n + n)) 0 ∙ ap (falling_diagonals n (suc (n + n))) (less_none n))
