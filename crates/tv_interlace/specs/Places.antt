-- Single places of a slice.
--
-- extra legs t s d  == the number of extras of the slice at place d
-- beside legs x h y == how many of the cells over (x, y) below the height h are in no leg
use Rattle.std.specs.Prelude.{ℕ, ◌-◌, ℤ, cond}
use Rattle.tv_partition.specs.Rows.{has}
use Rattle.tv_cells.specs.declared.legs.Legs.{Legs}
use Rattle.tv_spec_slices.specs.Slices.{Shape, at, base, over}

abbrev pub extra : Legs → ℤ → Shape → ℕ → ℕ
extra legs t s d = over legs t (at s d) d

abbrev pub beside : Legs → ℕ → ℕ → ℕ → ℕ
beside legs x h y = cond (has legs.along_z x y) 0 (h - base legs x y)
