-- Finite sums over a ring, products of sequences, and the multiples of one.
-- A sequence is a function from its places 0, 1, 2 .. to the ring.
--
--   sum_below r f n          == f 0 + f 1 + .. + f (n - 1)
--   at r xs                  == the sequence of a list, nought past its end
--   term r f g k i           == f i * g (k - i), a term of the product's coefficient at k
--   convolution r f g        == the product of two sequences
--   total_below f n          == the sum of the numbers f 0, f 1, .., f (n - 1)
--   size_term r f g k i      == size (f i) * size (g (k - i))
--   size_convolution r f g k == the sum of the sizes of the terms at k
--   AreValues IsValue f      == each term of the sequence f is a value
--   times r n                == n times one, for a number n from 0 on
--   whole_times r z          == z times one, for a whole number z
use Rattle.std.specs.Prelude.{ℕ, zero, suc, ◌+◌, ◌-◌, ◌*◌, ℤ, pos, negsuc, List, slice_index_or}
use Rattle.tv_ring.specs.Operations.{Operations}

unfoldable pub sum_below : {A : Type 0} → Operations A → (ℕ → A) → ℕ → A
sum_below r f zero = r.nought
sum_below r f (suc n) = r.add (sum_below r f n) (f n)

unfoldable pub at : {A : Type 0} → Operations A → List A → ℕ → A
at r xs k = slice_index_or xs k r.nought

unfoldable pub term : {A : Type 0} → Operations A → (ℕ → A) → (ℕ → A) → ℕ → ℕ → A
term r f g k i = r.mul (f i) (g (k - i))

unfoldable pub convolution : {A : Type 0} → Operations A → (ℕ → A) → (ℕ → A) → ℕ → A
convolution r f g k = sum_below r (term r f g k) (suc k)

unfoldable pub total_below : (ℕ → ℕ) → ℕ → ℕ
total_below f zero = 0
total_below f (suc n) = total_below f n + f n

unfoldable pub size_term : {A : Type 0} → Operations A → (ℕ → A) → (ℕ → A) → ℕ → ℕ → ℕ
size_term r f g k i = r.size (f i) * r.size (g (k - i))

unfoldable pub size_convolution : {A : Type 0} → Operations A → (ℕ → A) → (ℕ → A) → ℕ → ℕ
size_convolution r f g k = total_below (size_term r f g k) (suc k)

unfoldable pub times : {A : Type 0} → Operations A → ℕ → A
times r zero = r.nought
times r (suc n) = r.add (times r n) r.unit

unfoldable pub whole_times : {A : Type 0} → Operations A → ℤ → A
whole_times r (pos n) = times r n
whole_times r (negsuc n) = r.neg (times r (suc n))

abbrev pub AreValues : {A : Type 0} → (A → Type 0) → (ℕ → A) → Type 0
AreValues IsValue f = (k : ℕ) → IsValue (f k)
