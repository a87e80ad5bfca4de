-- What a row of numbers tells.
--
-- Tells r f n row      == the row's first numbers are f 0, .., f (n - 1), times one, its marks tell which are above 0, and those
--                         below its least cost are 0; it can have more
use Rattle.std.specs.Prelude.{◌≡◌, ℕ, ◌<◌, nat_lt}
use Rattle.tv_ring.specs.Operations.{Operations}
use Rattle.tv_ring.specs.Sums.{at, times}
use Rattle.tv_slices.specs.declared.row.Row.{Row}
use Rattle.tv_slices.specs.Rows.{is_reached}

pub record Tells {A : Type 0} (r : Operations A) (f : ℕ → ℕ) (n : ℕ) (row : Row A) : Type 0 where
  pub counts : (c : ℕ) → c < n → at r row.counts.items c ≡ times r (f c)
  pub reached : (c : ℕ) → c < n → is_reached row.reached.items c ≡ nat_lt 0 (f c)
  pub least : (c : ℕ) → c < n → c < row.least → f c ≡ 0
