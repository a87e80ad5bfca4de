-- Grids are within the limits of files.
use Rattle.std.proofs.Common.{◌≡◌, ℕ, zero, suc, ◌+◌, ◌*◌, ◌<◌, ◌≤◌, List, [], ◌∷◌, length, map, refl, sym, ap, ◌∙◌, subst, arith}
use Rattle.std.specs.List.{flat_map, range_with_len, AllByRecursion}
use Rattle.std.proofs.lemmas.Int.{ints}
use Rattle.std.proofs.lemmas.Nat.{mul-le}
use Rattle.std.proofs.lemmas.List.FromFn.{length-range_with_len}
use Rattle.tv_lattice.specs.Limits.{IsHeight, HasCoordinates, IsWithinLimits}
use Rattle.tv_lemmas.proofs.Lists.{length-pairs, length-flat_map-le, flat_map-flat_map}
use Rattle.tv_lemmas.proofs.Members.{all-map, all-flat_map}
use Rattle.tv_spec_plane.specs.Web.{below}
use Rattle.tv_spec_reports.specs.Grids.{over_square, grid_point, lower, upper, grid_height, grid}
use Rattle.tv_grids.proofs.Rows.{row}

pub all-range : (k m n : ℕ) → k + m ≤ n → AllByRecursion (λ x. x < n) (range_with_len k m)
all-range k zero n h = tt
all-range k (suc m) n h = (omega arith, all-range (k + 1) m n (omega arith))

pub over-each : {A : Type 0} (P : A → Type 0) (n : ℕ) (f : ℕ → ℕ → A) → ((x y : ℕ) → x < n → y < n → P (f x y)) → AllByRecursion P (over_square n f)
over-each P n f each =
    let inside = all-range 0 n n (omega arith) in
    all-flat_map (λ y. y < n) P (row n f) (λ y h. all-map (λ x. x < n) P (λ x. f x y) (λ x g. each x y g h) (below n) inside) (below n) inside

pub length-over : {A : Type 0} (n : ℕ) (f : ℕ → ℕ → A) → length (over_square n f) ≡ n * n
length-over n f = length-pairs (λ y x. f x y) (below n) (below n) ∙ ap (λ m. m * length (below n)) (length-range_with_len 0 n) ∙ ap (λ m. n * m) (length-range_with_len 0 n)

length-rows : (k : ℕ) (ys : List ℕ) → length (flat_map (λ ts. ts) (flat_map (row k (λ x y. lower k x y ∷ upper k x y ∷ [])) ys)) ≤ length ys * (k * 2)
length-rows k ys = subst (λ n. n ≤ length ys * (k * 2)) (ap length (sym (flat_map-flat_map (λ ts. ts) (row k (λ x y. lower k x y ∷ upper k x y ∷ [])) ys))) (length-flat_map-le _ (k * 2) (λ y. omega (arith, length-row y (below k), length-range_with_len 0 k)) ys)
  where
    length-row : (y : ℕ) (xs : List ℕ) → length (flat_map (λ ts. ts) (map (λ x. lower k x y ∷ upper k x y ∷ []) xs)) ≡ length xs * 2
    length-row y [] = refl
    length-row y (x ∷ xs) = omega (arith, length-row y xs)

pub grid-within : (k : ℕ) → k ≤ 7 → IsWithinLimits (grid k)
grid-within k h = record {
  points = omega (arith, length-over (suc k) grid_point, mul-le (suc k) (suc k) 8 8 (omega arith) (omega arith));
  triangles = omega (arith, length-rows k (below k), length-range_with_len 0 k, mul-le (length (below k)) (k * 2) 7 14 (omega (arith, length-range_with_len 0 k)) (omega arith));
  coordinates = over-each HasCoordinates (suc k) grid_point (λ x y g i. (omega arith, omega arith));
  sizes = over-each IsHeight (suc k) grid_height (λ x y g i. omega (arith, ints, mul-le x x 7 7 (omega arith) (omega arith), mul-le y y 7 7 (omega arith) (omega arith), mul-le x y 7 7 (omega arith) (omega arith)));
}
