-- The entries of a diagonal with their numbers of ways.
--
-- path_count r legs k t e == the slice and the cost of an entry, and its number of ways, times one
-- path_counts r legs k t == those of all entries at t, by slice, then by cost
-- row_count r s row c   == of the slice s with that row the count at cost c, if c is reached
-- row_counts r s row n  == those of the costs 0, .., n - 1
-- found_counts r s o n  == those of the row, if there is one
use Rattle.std.specs.Prelude.{ℕ, ℤ, cond, List, [], ◌∷◌, map, Option, Some, None}
use Rattle.std.specs.List.{flat_map}
use Rattle.tv_ring.specs.Operations.{Operations}
use Rattle.tv_ring.specs.Sums.{at, times}
use Rattle.tv_cells.specs.declared.legs.Legs.{Legs}
use Rattle.tv_cells.specs.Cells.{below}
use Rattle.tv_spec_slices.specs.Slices.{Shape}
use Rattle.tv_spec_slices.specs.Paths.{ways_at, entries}
use Rattle.tv_slices.specs.declared.row.Row.{Row}
use Rattle.tv_slices.specs.Rows.{is_reached}
use Rattle.tv_paths.specs.declared.counts.PathCount.{PathCount}

abbrev pub path_count : {A : Type 0} → Operations A → Legs → ℕ → ℤ → Shape × ℕ → PathCount A
path_count r legs k t e = record { slice = e.0; cost = e.1; count = times r (ways_at legs k t e.0 e.1) }

unfoldable pub path_counts : {A : Type 0} → Operations A → Legs → ℕ → ℤ → List (PathCount A)
path_counts r legs k t = map (path_count r legs k t) (entries legs k t)

unfoldable pub row_count : {A : Type 0} → Operations A → Shape → Row A → ℕ → List (PathCount A)
row_count r s row c = cond (is_reached row.reached.items c) (record { slice = s; cost = c; count = at r row.counts.items c } ∷ []) []

unfoldable pub row_counts : {A : Type 0} → Operations A → Shape → Row A → ℕ → List (PathCount A)
row_counts r s row n = flat_map (row_count r s row) (below n)

abbrev pub found_counts : {A : Type 0} → Operations A → Shape → Option (Row A) → ℕ → List (PathCount A)
found_counts r s None n = []
found_counts r s (Some row) n = row_counts r s row n
