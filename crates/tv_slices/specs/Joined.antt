-- Rows that are added: two of them, and a row and what is pushed to it.
--
-- IsSum r a b x len new == new's first len numbers are those of a and those of b that cost x more, added; its marks are either's,
--                         and its least cost is the lesser of that of a and that of b plus x
-- counts_of old       == the numbers of the old row, none where there is no row
-- reached_of old      == its marks, none where there is no row
-- IsJoined r old row x len new == new is this sum of the old row and the row, or of the row alone where there is no old one
use Rattle.std.specs.Prelude.{◌≡◌, ℕ, ◌+◌, min, Bool, List, [], Option, None, Some, MatchOption}
use Rattle.tv_ring.specs.Operations.{Operations}
use Rattle.tv_laws_series.specs.Terms.{listed}
use Rattle.tv_slices.specs.declared.row.Row.{Row}
use Rattle.tv_slices.specs.Rows.{sums, either_reached}

abbrev pub counts_of : {A : Type 0} → Option (Row A) → List A
counts_of None = []
counts_of (Some row) = row.counts.items

abbrev pub reached_of : {A : Type 0} → Option (Row A) → List Bool
reached_of None = []
reached_of (Some row) = row.reached.items

pub record IsSum {A : Type 0} (r : Operations A) (a b : Row A) (x len : ℕ) (new : Row A) : Type 0 where
  pub counts : new.counts.items ≡ listed (sums r a.counts.items b.counts.items x) len
  pub reached : new.reached.items ≡ listed (either_reached a.reached.items b.reached.items x) len
  pub least : new.least ≡ min a.least (b.least + x)

pub record IsJoined {A : Type 0} (r : Operations A) (old : Option (Row A)) (row : Row A) (x len : ℕ) (new : Row A) : Type 0 where
  pub counts : new.counts.items ≡ listed (sums r (counts_of old) row.counts.items x) len
  pub reached : new.reached.items ≡ listed (either_reached (reached_of old) row.reached.items x) len
  pub least : MatchOption old (new.least ≡ row.least + x) (λ o. new.least ≡ min o.least (row.least + x))
