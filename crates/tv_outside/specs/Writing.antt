-- What writing a whole text does and answers.
--
-- GivesAll old new count text  == all of the text was appended, in at most a write for each byte, and no write failed
-- GivesPart old new count text == less than the text was appended, in at most a write for each byte, and then one write failed
-- Gives old new text r         == the first bytes of the text were appended to what was taken: all of them where r is Ok
use Rattle.std.specs.Prelude.{◌≡◌, ℕ, ◌+◌, ◌<◌, ◌≤◌, List, length, take, Result, MatchResult}
use Rattle.std.specs.Io.KnownBytes.{Appends}
use Rattle.tv_outside.specs.Faults.{RoseOnce}
use Rattle.tv_outside.specs.Seen.{Seen}

pub record GivesAll (old new : Seen) (count : ℕ) (text : List ℕ) : Type 0 where
  pub whole : count ≡ length text
  pub calls : new.calls ≤ old.calls + count
  pub kept : new.faults ≡ old.faults

pub record GivesPart (old new : Seen) (count : ℕ) (text : List ℕ) : Type 0 where
  pub part : count < length text
  pub calls : new.calls ≤ old.calls + count + 1
  pub rose : RoseOnce old.faults new.faults

pub record Gives {A E : Type 0} (old new : Seen) (text : List ℕ) (result : Result A E) : Type 0 where
  pub count : ℕ
  pub within : count ≤ length text
  pub appended : Appends old.bytes new.bytes (take count text)
  pub later : old.faults ≤ new.faults
  pub outcome : MatchResult result (λ _. GivesAll old new count text) (λ _. GivesPart old new count text)
