-- What reading a source to its end does and answers.
--
-- IsWhole old new limit bytes v       == v is the bytes that were taken, at most the limit, nothing is left, and no read failed
-- EndsEarly limit count before now e  == why the reads stopped after count bytes without an answer: one byte too many, one
--                                        failed read, or want of memory
-- Takes old new limit r               == the reads took some bytes from the front of what was left, each read but the last at
--                                        least one, and r says how it ended
use Rattle.std.specs.Prelude.{◌≡◌, ℕ, ◌+◌, ◌≤◌, List, length, Result, MatchResult, vec_items}
use Rattle.std.specs.Global.{Vec}
use Rattle.std.specs.Io.KnownBytes.{Consumes, IsAtEnd}
use Rattle.tv_outside.specs.declared.reading.ReadEnd.{ReadEnd}
use Rattle.tv_outside.specs.declared.reading.ReadEnd.TheVariants.{TooLong, Fault, Memory}
use Rattle.tv_outside.specs.Faults.{RoseOnce}
use Rattle.tv_outside.specs.Seen.{Seen}

pub record IsWhole (old new : Seen) (limit : ℕ) (bytes items : List ℕ) : Type 0 where
  pub same : items ≡ bytes
  pub within : length bytes ≤ limit
  pub ended : IsAtEnd new.bytes
  pub kept : new.faults ≡ old.faults

abbrev pub EndsEarly : ℕ → ℕ → ℕ → ℕ → ReadEnd → Type 0
EndsEarly limit count before now TooLong = (count ≡ limit + 1) × (now ≡ before)
EndsEarly limit count before now Fault = (count ≤ limit) × RoseOnce before now
EndsEarly limit count before now Memory = (count ≤ limit) × (now ≡ before)

pub record Takes (old new : Seen) (limit : ℕ) (result : Result (Vec ℕ) ReadEnd) : Type 0 where
  pub bytes : List ℕ
  pub taken : Consumes old.bytes new.bytes bytes
  pub calls : new.calls ≤ old.calls + length bytes + 1
  pub later : old.faults ≤ new.faults
  pub outcome : MatchResult result (λ v. IsWhole old new limit bytes (vec_items v))
      (EndsEarly limit (length bytes) old.faults new.faults)
