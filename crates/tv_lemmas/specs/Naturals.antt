-- Whole numbers read as natural ones, and the first natural numbers.
--
-- as_natural z == z, or 0 where it is below 0
-- below n      == 0, 1, .., n - 1
use Rattle.std.specs.Prelude.{ℕ, ℤ, pos, negsuc, List}
use Rattle.std.specs.List.{range_with_len}

abbrev pub as_natural : ℤ → ℕ
as_natural (pos n) = n
as_natural (negsuc n) = 0

abbrev pub below : ℕ → List ℕ
below n = range_with_len 0 n
