-- What is seen of a sink in memory.
--
-- Store                          == the bytes taken, the room for them, the most that a write takes, and the schedule of its calls
-- seen_store s                   == what is seen of it by one who knows no more than that it is a sink
-- first_store room piece fails   == before the first write
-- room_left s                    == how many bytes more there is room for
-- taken_count s offered          == how many bytes a write of this many takes
-- after_write s n piece          == after a write that took the first n bytes of piece
-- after_failed_write s           == after a write that failed
-- IsRefused s piece              == the next write fails where it offers this piece
use Rattle.std.specs.Prelude.{◌≡◌, ◌≢◌, ℕ, ◌-◌, ◌⊎◌, min, List, [], ◌++◌, length, take, Some}
use Rattle.tv_outside.specs.Schedule.{Schedule, first_schedule, after_call, after_fault, IsDue}
use Rattle.tv_outside.specs.Seen.{Seen}

pub record Store : Type 0 where
  pub taken : List ℕ
  pub room : ℕ
  pub piece : ℕ
  pub schedule : Schedule

abbrev pub seen_store : Store → Seen
seen_store s = record { bytes = Some s.taken; calls = s.schedule.calls; faults = s.schedule.faults }

abbrev pub first_store : ℕ → ℕ → List ℕ → Store
first_store room piece fails = record { taken = []; room = room; piece = piece; schedule = first_schedule fails }

abbrev pub room_left : Store → ℕ
room_left s = s.room - length s.taken

abbrev pub taken_count : Store → ℕ → ℕ
taken_count s offered = min (min s.piece (room_left s)) offered

abbrev pub after_write : Store → ℕ → List ℕ → Store
after_write s n piece = record s { taken = s.taken ++ take n piece; schedule = after_call s.schedule }

abbrev pub after_failed_write : Store → Store
after_failed_write s = record s { schedule = after_fault (after_call s.schedule) }

abbrev pub IsRefused : Store → List ℕ → Type 0
IsRefused s piece = IsDue s.schedule ⊎ ((piece ≢ []) × (room_left s ≡ 0))
