-- The series of one corner.
--
-- extras_times r legs i == the number of sets of i extras beside the legs, times one
-- corner_terms r legs k == the series of these numbers, from exponent 0 through k
use Rattle.std.specs.Prelude.{ℕ, suc, pos}
use Rattle.tv_ring.specs.Operations.{Operations}
use Rattle.tv_ring.specs.Sums.{times}
use Rattle.tv_laws_series.specs.Terms.{Terms, terms, listed}
use Rattle.tv_cells.specs.declared.legs.Legs.{Legs}
use Rattle.tv_cells.specs.Extras.{count}

unfoldable pub extras_times : {A : Type 0} → Operations A → Legs → ℕ → A
extras_times r legs i = times r (count legs i)

abbrev pub corner_terms : {A : Type 0} → Operations A → Legs → ℕ → Terms A
corner_terms r legs k = terms (pos 0) (listed (extras_times r legs) (suc k))
