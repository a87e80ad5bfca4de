-- What the calls of a series ask, what they tell of a coefficient, and when a coefficient is too wide.
--
--   Tells r a n c                   == c tells the coefficient of a at n
--   IsWideAt low n count size       == n is one of count exponents from low on, and the size there exceeds the limit
--   OnWide fault P                  == P holds of the exponent of a fault that is Wide
--   IsSumWide r a b n               == n is known in the sum of a and b, and the sizes at n add up to more than the limit
--   IsProductWide r a b n           == n is known in the product, and the sizes of its terms at n add up to more than the limit
--   IsMultipleWide r c a n          == n is known in a, and the size of c times the size at n exceeds the limit
--   sum_size r f g k                == size (f k) + size (g k)
--   scale_size r c f k              == size c * size (f k)
--   ReachesAddUp r xs ys            == the reaches of each two coefficients add up to at most 2^60
--   ReachesAddTo r c xs             == the reaches of c and of each coefficient add up to at most 2^60
use Rattle.std.specs.Prelude.{◌≡◌, ℕ, ◌+◌, ◌*◌, ◌<◌, ◌≤◌, ℤ, pos, ◌+ℤ◌, min, List, length, ⊤, ◌<ℤ◌, ◌≤ℤ◌}
use Rattle.std.specs.Int.{int_min}
use Rattle.tv_ring.specs.Operations.{Operations, limit, reach_limit}
use Rattle.tv_ring.specs.Sums.{at, size_convolution}
use Rattle.tv_laws_series.specs.Terms.{Terms, above, upto, from, known}
use Rattle.tv_laurent.specs.declared.coefficient.Coefficient.{Coefficient}
use Rattle.tv_laurent.specs.declared.coefficient.Coefficient.TheVariants.{Beyond, Zero, Is}
use Rattle.tv_laurent.specs.declared.fault.SeriesFault.{SeriesFault}
use Rattle.tv_laurent.specs.declared.fault.SeriesFault.TheVariants.{Wide, Memory}

abbrev pub Tells : {A : Type 0} → Operations A → Terms A → ℤ → Coefficient A → Type 0
Tells r a n Beyond = upto a <ℤ n
Tells r a n Zero = (n <ℤ a.low) × (n ≤ℤ upto a)
Tells r a n (Is x) = (a.low ≤ℤ n) × (n ≤ℤ upto a) × (x.now ≡ at r a.coefficients (above a.low n))

pub record IsWideAt (low n : ℤ) (count : ℕ) (size : ℕ → ℕ) : Type 0 where
  pub place : ℕ
  pub within : place < count
  pub exponent : n ≡ low +ℤ pos place
  pub wide : limit < size place

abbrev pub OnWide : SeriesFault → (ℤ → Type 0) → Type 0
OnWide (Wide n) P = P n
OnWide Memory P = ⊤

unfoldable pub sum_size : {A : Type 0} → Operations A → (ℕ → A) → (ℕ → A) → ℕ → ℕ
sum_size r f g k = r.size (f k) + r.size (g k)

unfoldable pub scale_size : {A : Type 0} → Operations A → A → (ℕ → A) → ℕ → ℕ
scale_size r c f k = r.size c * r.size (f k)

abbrev pub ReachesAddUp : {A : Type 0} → Operations A → List A → List A → Type 0
ReachesAddUp r xs ys = (i j : ℕ) → i < length xs → j < length ys → r.reach (at r xs i) + r.reach (at r ys j) ≤ reach_limit

abbrev pub ReachesAddTo : {A : Type 0} → Operations A → A → List A → Type 0
ReachesAddTo r c xs = (i : ℕ) → i < length xs → r.reach c + r.reach (at r xs i) ≤ reach_limit

abbrev pub IsSumWide : {A : Type 0} → Operations A → Terms A → Terms A → ℤ → Type 0
IsSumWide r a b n = let m = int_min a.low b.low in IsWideAt m n (min (known m a) (known m b)) (sum_size r (from r m a) (from r m b))

abbrev pub IsProductWide : {A : Type 0} → Operations A → Terms A → Terms A → ℤ → Type 0
IsProductWide r a b n = IsWideAt (a.low +ℤ b.low) n (min (length a.coefficients) (length b.coefficients)) (size_convolution r (at r a.coefficients) (at r b.coefficients))

abbrev pub IsMultipleWide : {A : Type 0} → Operations A → A → Terms A → ℤ → Type 0
IsMultipleWide r c a n = IsWideAt a.low n (length a.coefficients) (scale_size r c (at r a.coefficients))
