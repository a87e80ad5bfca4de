-- What is seen of the calls of a source or a sink in memory.
--
-- Schedule                == the numbers of the calls that fail, how many calls there were, how many of them failed
-- first_schedule fails    == before the first call
-- after_call s            == one call more
-- after_fault s           == one fault more
-- IsDue s                 == the next call is listed, and its number is below the last
use Rattle.std.specs.Prelude.{ℕ, ◌<◌, List, Contains}
use Rattle.tv_outside.specs.Faults.{last_count, next_count}

pub record Schedule : Type 0 where
  pub fails : List ℕ
  pub calls : ℕ
  pub faults : ℕ

abbrev pub first_schedule : List ℕ → Schedule
first_schedule fails = record { fails = fails; calls = 0; faults = 0 }

abbrev pub after_call : Schedule → Schedule
after_call s = record s { calls = next_count s.calls }

abbrev pub after_fault : Schedule → Schedule
after_fault s = record s { faults = next_count s.faults }

pub record IsDue (s : Schedule) : Type 0 where
  pub listed : Contains s.fails s.calls
  pub counted : s.calls < last_count
