-- Classes by their entries.
--
-- IsEntry z      == within the limit of entries in absolute value
-- IsEntries v    == as many entries as a file may list points, or fewer, each within its limit
use Rattle.std.specs.Prelude.{◌≤◌, ℤ, List, length, unsigned_abs}
use Rattle.std.specs.List.{AllByRecursion}
use Rattle.tv_spec_plane.specs.declared.limits.TheConstants.{MOST_POINTS, GREATEST_ENTRY}

abbrev pub IsEntry : ℤ → Type 0
IsEntry z = unsigned_abs z ≤ GREATEST_ENTRY

pub record IsEntries (v : List ℤ) : Type 0 where
  pub few : length v ≤ MOST_POINTS
  pub small : AllByRecursion IsEntry v
