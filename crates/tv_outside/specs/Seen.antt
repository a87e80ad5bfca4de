-- What is seen of a source or a sink, and what one call does to its counts.
--
-- Seen                  == the bytes that a source has left or that a sink took, where it tells them, the number of its
--                          calls (reads or writes, failed ones too), and the number of those that failed
-- IsCounted old new r   == one call more; a fault more where r is an error, and none where it is Ok
use Rattle.std.specs.Prelude.{◌≡◌, ℕ, ◌≤◌, List, Option, Result, OnOk, OnErr}
use Rattle.tv_outside.specs.Faults.{next_count, RoseOnce}

pub record Seen : Type 0 where
  pub bytes : Option (List ℕ)
  pub calls : ℕ
  pub faults : ℕ

pub record IsCounted {A E : Type 0} (old new : Seen) (result : Result A E) : Type 0 where
  pub call : new.calls ≡ next_count old.calls
  pub later : old.faults ≤ new.faults
  pub kept : OnOk result (new.faults ≡ old.faults)
  pub failed : OnErr result (RoseOnce old.faults new.faults)
