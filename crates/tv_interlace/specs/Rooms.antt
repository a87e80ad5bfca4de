-- How many extras a slice at t + 1 that interlaces with a at t can have at some of its places.
--
-- low legs t a d   == the least number at place d
-- high legs t a d  == the greatest one
-- open_from f d n  == f d + .. + f (n - 1)
-- IsRoom legs t a d room == the room is the least and the greatest number at place d and all after it
use Rattle.std.specs.Prelude.{◌≡◌, ℕ, suc, ◌-◌, ℤ, pos, ◌+ℤ◌}
use Rattle.std.specs.List.{range_with_len}
use Rattle.tv_lemmas.specs.Sums.{sum_of}
use Rattle.tv_cells.specs.declared.legs.Legs.{Legs}
use Rattle.tv_spec_slices.specs.Slices.{Shape, reach, base_at}
use Rattle.tv_interlace.specs.declared.rooms.Room.{Room}
use Rattle.tv_interlace.specs.Bounds.{floor, ceiling}

abbrev pub low : Legs → ℤ → Shape → ℕ → ℕ
low legs t a d = floor t a d - base_at legs (t +ℤ pos 1) d

abbrev pub high : Legs → ℤ → Shape → ℕ → ℕ
high legs t a d = ceiling t a d - base_at legs (t +ℤ pos 1) d

abbrev pub open_from : (ℕ → ℕ) → ℕ → ℕ → ℕ
open_from f d n = sum_of f (range_with_len d (n - d))

pub record IsRoom (legs : Legs) (t : ℤ) (a : Shape) (d : ℕ) (room : Room) : Type 0 where
  pub least : room.least ≡ open_from (low legs t a) d (suc (reach a))
  pub most : room.most ≡ open_from (high legs t a) d (suc (reach a))
