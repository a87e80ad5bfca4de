-- What is seen of a source in memory.
--
-- Supply                          == the bytes left, the most that a read gives, and the schedule of its calls
-- seen_supply s                   == what is seen of it by one who knows no more than that it is a source
-- first_supply bytes piece fails  == before the first read
-- given_count s room              == how many bytes a read into a buffer of this length gives
-- after_read s n                  == after a read that gave n bytes
-- after_failed_read s             == after a read that failed
use Rattle.std.specs.Prelude.{ℕ, min, List, length, drop, Some}
use Rattle.tv_outside.specs.Schedule.{Schedule, first_schedule, after_call, after_fault}
use Rattle.tv_outside.specs.Seen.{Seen}

pub record Supply : Type 0 where
  pub left : List ℕ
  pub piece : ℕ
  pub schedule : Schedule

abbrev pub seen_supply : Supply → Seen
seen_supply s = record { bytes = Some s.left; calls = s.schedule.calls; faults = s.schedule.faults }

abbrev pub first_supply : List ℕ → ℕ → List ℕ → Supply
first_supply bytes piece fails = record { left = bytes; piece = piece; schedule = first_schedule fails }

abbrev pub given_count : Supply → ℕ → ℕ
given_count s room = min (min s.piece room) (length s.left)

abbrev pub after_read : Supply → ℕ → Supply
after_read s n = record s { left = drop n s.left; schedule = after_call s.schedule }

abbrev pub after_failed_read : Supply → Supply
after_failed_read s = record s { schedule = after_fault (after_call s.schedule) }
