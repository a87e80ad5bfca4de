-- What is seen of a source and of a sink.
--
-- Change        == what is seen of it before a call and after it
-- Gave io bytes == these bytes were taken from the source without a fault, and where it tells its bytes, none are left
use Rattle.std.specs.Prelude.{◌≡◌, ℕ, List}
use Rattle.std.specs.Io.KnownBytes.{Consumes, IsAtEnd}
use Rattle.tv_outside.specs.Seen.{Seen}

pub record Change : Type 0 where
  pub before : Seen
  pub after : Seen

pub record Gave (io : Change) (bytes : List ℕ) : Type 0 where
  pub taken : Consumes io.before.bytes io.after.bytes bytes
  pub ended : IsAtEnd io.after.bytes
  pub kept : io.after.faults ≡ io.before.faults
