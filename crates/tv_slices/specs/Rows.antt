-- Numbers of ways by their cost.
--
-- shifted r more x e    == the number at cost e of those that cost x more
-- sums r before more x e == the sum of that before and of that
-- numbers r f n         == the numbers f 0, .., f (n - 1), times one
-- is_reached marks e    == whether the cost e is marked; one past the last is not
-- either_reached before more x e == whether it is marked before, or so is the one that costs x less in more
-- marks f n             == whether f 0, .., f (n - 1) are above 0
use Rattle.std.specs.Prelude.{ℕ, ◌-◌, Bool, false, cond, ◌&&◌, ◌||◌, nat_lt, nat_le, List, slice_index_or}
use Rattle.tv_ring.specs.Operations.{Operations}
use Rattle.tv_ring.specs.Sums.{at, times}
use Rattle.tv_laws_series.specs.Terms.{listed}

unfoldable pub shifted : {A : Type 0} → Operations A → List A → ℕ → ℕ → A
shifted r more x e = cond (nat_lt e x) r.nought (at r more (e - x))

unfoldable pub sums : {A : Type 0} → Operations A → List A → List A → ℕ → ℕ → A
sums r before more x e = r.add (at r before e) (shifted r more x e)

unfoldable pub numbers : {A : Type 0} → Operations A → (ℕ → ℕ) → ℕ → List A
numbers r f n = listed (λ c. times r (f c)) n

abbrev pub is_reached : List Bool → ℕ → Bool
is_reached marks e = slice_index_or marks e false

abbrev pub either_reached : List Bool → List Bool → ℕ → ℕ → Bool
either_reached before more x e = is_reached before e || (nat_le x e && is_reached more (e - x))

unfoldable pub marks : (ℕ → ℕ) → ℕ → List Bool
marks f n = listed (λ c. nat_lt 0 (f c)) n
